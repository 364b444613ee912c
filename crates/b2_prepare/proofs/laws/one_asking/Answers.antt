use Rattle.b2_prepare.proofs.OneMeaning.{one_asking_is, none_asked_is}
use Rattle.b2_prepare.proofs.laws.one_asking.Goals as goal

pub returns-clause-one : goal.returns-clause-one
returns-clause-one c = one_asking_is c.one_ending.ensures

pub returns-clause-none : goal.returns-clause-none
returns-clause-none c = none_asked_is
