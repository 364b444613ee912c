use Rattle.std.proofs.Common.{map, take}
use Rattle.std.specs.List.{AllZip}
use Rattle.b2_endings.specs.Endings.{lists_of}
use Rattle.b2_testing.specs.Verdicts.{IsJudgedBy}
use Rattle.b2_testing.proofs.pass_list.judged.Given as goal

abbrev pub invariant-loop-test : goal.invariant-loop-test
invariant-loop-test l = AllZip (IsJudgedBy l.plan.steps (lists_of l.lists)) (map (λ test. test.1) (take l.test-index l.tests)) l.verdicts.items
