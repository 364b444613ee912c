use Rattle.b2_virtual.proofs.JoinedStepsKeepTheirNumbers.{number_own, numbers_stay}
use Rattle.b2_virtual.proofs.laws.numbers.Goals as goal

pub returns-clause-own : goal.returns-clause-own
returns-clause-own c = number_own

pub returns-clause-stay : goal.returns-clause-stay
returns-clause-stay c = numbers_stay
