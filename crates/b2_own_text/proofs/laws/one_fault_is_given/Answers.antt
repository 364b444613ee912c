use Rattle.b2_own_text.proofs.GivenFaultChangesOneQuestion.{own_ends, other_ends}
use Rattle.b2_own_text.proofs.laws.one_fault_is_given.Goals as goal

pub returns : goal.returns
returns c = record { own = own_ends; others = other_ends }
