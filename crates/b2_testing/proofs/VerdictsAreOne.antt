-- A test has one verdict at most.
use Rattle.std.proofs.Common.{◌≡◌, ℕ, List, refl, sym, ◌∙◌, inl, inr}
use Rattle.std.specs.List.{Contains}
use Rattle.b2_plan.specs.declared.step.Step.{Step}
use Rattle.b2_runs.specs.Reports.{Lists}
use Rattle.b2_runs.specs.UpdateAnswers.{all_went, failed, step_cycle, too_big, host_fault, sink_fault, out_of_memory}
use Rattle.b2_testing.specs.declared.verdict.Verdict.{Verdict}
use Rattle.b2_testing.specs.Verdicts.{Reaches, DidFail, IsJudgedBy, has_passed, has_failed, was_not_run}
use Rattle.b2_testing.specs.Laws.{OneVerdict}

module _ (steps : List Step) (lists : Lists) (m : ℕ) where
  -- what neither failed nor was skipped did not fail, and what leads to no failed step did not either
  not_both : (Contains lists.failed m → ⊥) → (Contains lists.skipped m → ⊥) → DidFail steps lists m → ⊥
  not_both f s (inl h) = f h
  not_both f s (inr (h, led)) = s h

  not_led : (Contains lists.failed m → ⊥) → (Reaches steps lists.failed m → ⊥) → DidFail steps lists m → ⊥
  not_led f r (inl h) = f h
  not_led f r (inr (h, led)) = r led

  judged_once : (a b : Verdict) → IsJudgedBy steps lists m a → IsJudgedBy steps lists m b → a ≡ b
  judged_once a b (has_passed f s) (has_passed g t) = refl
  judged_once a b (has_passed f s) (has_failed h) = absurd (not_both f s h)
  judged_once a b (has_passed f s) (was_not_run h g r) = absurd (s h)
  judged_once a b (has_failed h) (has_passed f s) = absurd (not_both f s h)
  judged_once a b (has_failed h) (has_failed k) = refl
  judged_once a b (has_failed h) (was_not_run k f r) = absurd (not_led f r h)
  judged_once a b (was_not_run h f r) (has_passed g s) = absurd (s h)
  judged_once a b (was_not_run h f r) (has_failed k) = absurd (not_led f r k)
  judged_once a b (was_not_run h f r) (was_not_run k g s) = refl

pub one_verdict : OneVerdict
one_verdict steps all_went m a b p q = p ∙ sym q
one_verdict steps (failed lists) m a b p q = judged_once steps lists m a b p q
one_verdict steps (step_cycle list) m a b p q = absurd p
one_verdict steps (too_big path size) m a b p q = absurd p
one_verdict steps host_fault m a b p q = absurd p
one_verdict steps sink_fault m a b p q = absurd p
one_verdict steps out_of_memory m a b p q = absurd p
