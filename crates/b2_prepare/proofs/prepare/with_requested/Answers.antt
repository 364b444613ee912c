use Rattle.std.proofs.Common.{sym, subst}
use Rattle.std.specs.Prelude.{IfOk}
use Rattle.b2_generate.specs.Answers.{HaveSets}
use Rattle.b2_request_plan.specs.Plans.{seen}
use Rattle.b2_prepare.specs.PlanningParts.{HandsOn}
use Rattle.b2_prepare.proofs.RequestGetsPlanOrRefusal.{handed_stop}
use Rattle.b2_prepare.proofs.prepare.with_requested.Goals as goal

pub with_tests_of-requires-clause-sets : goal.with_tests_of-requires-clause-sets
with_tests_of-requires-clause-sets c = subst (λ r. IfOk r (λ planned. HaveSets c.args.declared.now (seen planned).rows)) c.in-Ok.is c.requires.sets

pub returns-in-Ok : goal.returns-in-Ok
returns-in-Ok c = λ found is.
    subst (λ r. HandsOn found r c.with_tests_of.result.result c.with_tests_of.result.tests.items) (sym c.in-Ok.is) (c.with_tests_of.ensures found is)

pub returns-in-Err : goal.returns-in-Err
returns-in-Err c = λ found is.
    subst (λ r. HandsOn found r c.without_tests.result.result c.without_tests.result.tests.items) (sym c.in-Err.is)
    (handed_stop found c.in-Err.stop c.without_tests.result.result c.without_tests.result.tests.items c.without_tests.ensures.result c.without_tests.ensures.tests)
