use Rattle.b2_refine.proofs.LawProofs.{order_changes_numbers}
use Rattle.b2_refine.proofs.laws.order_changes_numbers.Goals as goal

pub returns : goal.returns
returns c = order_changes_numbers
