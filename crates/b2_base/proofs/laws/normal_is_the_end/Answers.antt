use Rattle.b2_base.proofs.NormalFormIsOnlyEnd.{normal_root, normal_reached, normal_simplest, normal_only}
use Rattle.b2_base.proofs.laws.normal_is_the_end.Goals as goal

pub returns-clause-root : goal.returns-clause-root
returns-clause-root c = normal_root

pub returns-clause-reached : goal.returns-clause-reached
returns-clause-reached c = normal_reached

pub returns-clause-simplest : goal.returns-clause-simplest
returns-clause-simplest c = normal_simplest

pub returns-clause-only : goal.returns-clause-only
returns-clause-only c = normal_only
