use Rattle.b2_testing.proofs.VerdictsAreTold.{failed_verdicts, passed_verdicts}
use Rattle.b2_testing.proofs.pass_list.pass_list.Goals as goal

pub returns-in-Failed : goal.returns-in-Failed
returns-in-Failed c = failed_verdicts c.args.plan.now.steps _ c.args.answer.now _ c.judged.result c.in-Failed.is c.judged.ensures

pub returns-in_default : goal.returns-in_default
returns-in_default c = passed_verdicts c.args.plan.now.steps c.args.tests.now c.args.answer.now c.all_passed.result c.requires.ended c.in_default.not-Failed c.all_passed.ensures
