use Rattle.b2_endings.specs.Endings.{lists_of}
use Rattle.b2_testing.specs.Verdicts.{IsJudgedBy}
use Rattle.b2_testing.proofs.VerdictsAreTold.{judged_more, judge_tells}
use Rattle.b2_testing.proofs.pass_list.judged.Goals as goal

pub loop-test-preserved : goal.loop-test-preserved
loop-test-preserved c =
    let steps = c.args.plan.now.steps in
    let lists = c.args.lists.now in
    judged_more (IsJudgedBy steps (lists_of lists)) c.args.tests.now c.loop-test.test-index c.test-item.result c.loop-test.verdicts.items _ c.verdict.result c.loop-test-test.true c.test-item.is c.in_ok-push.ensures.items
    (judge_tells steps lists c.in_ok-judge.judge c.test-item.result.1 c.verdict.result c.in_ok-judge.ensures c.verdict.ensures) c.loop-test.invariant
