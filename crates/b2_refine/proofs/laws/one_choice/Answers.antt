use Rattle.b2_refine.proofs.LawProofs.{one_is_chosen, one_choice}
use Rattle.b2_refine.proofs.laws.one_choice.Goals as goal

pub returns : goal.returns
returns c = record { chosen = one_is_chosen; choice = one_choice }
