use Rattle.std.proofs.Common.{map, take, ◌≡◌}
use Rattle.b2_testing.specs.declared.verdict.Verdict.TheVariants.{Passed}
use Rattle.b2_testing.proofs.pass_list.all_passed.Given as goal

abbrev pub invariant-loop-test : goal.invariant-loop-test
invariant-loop-test l = l.verdicts.items ≡ map (λ _. Passed) (take l._test-index l.tests)
