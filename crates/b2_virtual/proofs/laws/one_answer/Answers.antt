use Rattle.b2_virtual.proofs.JoinedStepsKeepTheirNumbers.{one_clash, fitting_none}
use Rattle.b2_virtual.proofs.laws.one_answer.Goals as goal

pub returns-clause-first : goal.returns-clause-first
returns-clause-first c = one_clash

pub returns-clause-none : goal.returns-clause-none
returns-clause-none c = fitting_none
