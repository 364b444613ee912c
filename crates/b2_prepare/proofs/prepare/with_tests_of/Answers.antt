use Rattle.b2_prepare.proofs.RequestGetsPlanOrRefusal.{handed_plan, handed_memory}
use Rattle.b2_prepare.proofs.prepare.with_tests_of.Goals as goal

pub returns-in-Ok : goal.returns-in-Ok
returns-in-Ok c = λ found is. handed_plan found c.args.planned c.in-Ok.tests.items (c.in-Ok.ensures found is)

pub returns-in-Err : goal.returns-in-Err
returns-in-Err c = λ found is.
    handed_memory found c.args.planned c.without_tests.result.result c.without_tests.result.tests.items c.without_tests.ensures.result c.without_tests.ensures.tests
