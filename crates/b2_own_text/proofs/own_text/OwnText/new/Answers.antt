use Rattle.b2_own_text.proofs.EvaluationsGiveWhatIsTold.{none_if}
use Rattle.b2_own_text.proofs.own_text.OwnText.new.Goals as goal

pub invariant_of-result : goal.invariant_of-result
invariant_of-result g c = record { closed = none_if c.args.world.now.step c.requires.closed }
