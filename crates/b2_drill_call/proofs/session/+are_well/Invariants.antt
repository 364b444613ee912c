use Rattle.std.proofs.Common.{length}
use Rattle.b2_drill_call.proofs.session.+are_well.Given as goal

abbrev pub decreases-are_well : goal.decreases-are_well
decreases-are_well l = length l.answers.now
