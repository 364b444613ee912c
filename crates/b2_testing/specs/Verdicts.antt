-- What an update made of tests.
use Rattle.std.specs.Prelude.{◌≡◌, ℕ, List, ◌++◌, ⊤, ◌⊎◌, codes, Some}
use Rattle.std.specs.List.{Contains, AllZip, flat_map}
use Rattle.b2_plan.specs.declared.step.Step.{Step}
use Rattle.b2_plan.specs.Plans.{step_at, Makes}
use Rattle.b2_runs.specs.Reports.{Lists, line}
use Rattle.b2_runs.specs.UpdateAnswers.{UpdateAnswer, all_went, failed, step_cycle, too_big, host_fault, sink_fault, out_of_memory}
use Rattle.b2_testing.specs.declared.verdict.Verdict.{Verdict}
use Rattle.b2_testing.specs.declared.verdict.Verdict.TheVariants.{Passed, Failed, NotRun}

-- the update came to its end
abbrev pub HasEnded : UpdateAnswer → Type 0
HasEnded all_went = ⊤
HasEnded (failed lists) = ⊤
HasEnded (step_cycle list) = ⊥
HasEnded (too_big path size) = ⊥
HasEnded host_fault = ⊥
HasEnded sink_fault = ⊥
HasEnded out_of_memory = ⊥

-- The least set of steps that failed, or have an output of such a step among their declared inputs.
pub data Reaches (steps : List Step) (bad : List ℕ) : ℕ → Type 0 where
  here : (i : ℕ) → Contains bad i → Reaches steps bad i
  on : (i : ℕ) (step : Step) (path : List ℕ) (k : ℕ) (other : Step) → step_at steps i ≡ Some step → Contains step.ins path → Makes steps k other path → Reaches steps bad k → Reaches steps bad i

-- the step failed, or was skipped and leads to one that failed
abbrev pub DidFail : List Step → Lists → ℕ → Type 0
DidFail steps lists m = Contains lists.failed m ⊎ (Contains lists.skipped m × Reaches steps lists.failed m)

-- the verdict of a marker's step, by lists of what failed and was skipped
pub data IsJudgedBy (steps : List Step) (lists : Lists) (m : ℕ) : Verdict → Type 0 where
  has_passed : (Contains lists.failed m → ⊥) → (Contains lists.skipped m → ⊥) → IsJudgedBy steps lists m Passed
  has_failed : DidFail steps lists m → IsJudgedBy steps lists m Failed
  was_not_run : Contains lists.skipped m → (Contains lists.failed m → ⊥) → (Reaches steps lists.failed m → ⊥) → IsJudgedBy steps lists m NotRun

-- Where all went well each test passed. No test has a verdict where the update did not come to its end.
abbrev pub IsVerdict : List Step → UpdateAnswer → ℕ → Verdict → Type 0
IsVerdict steps all_went m verdict = verdict ≡ Passed
IsVerdict steps (failed lists) m verdict = IsJudgedBy steps lists m verdict
IsVerdict steps (step_cycle list) m verdict = ⊥
IsVerdict steps (too_big path size) m verdict = ⊥
IsVerdict steps host_fault m verdict = ⊥
IsVerdict steps sink_fault m verdict = ⊥
IsVerdict steps out_of_memory m verdict = ⊥

-- the verdicts of the steps of markers, in order
abbrev pub ArePassed : List Step → UpdateAnswer → List ℕ → List Verdict → Type 0
ArePassed steps answer = AllZip (IsVerdict steps answer)

-- ---- the report

abbrev pub verdict_word : Verdict → List ℕ
verdict_word Passed = codes "passed "
verdict_word Failed = codes "failed "
verdict_word NotRun = codes "not run "

-- the last lines of a report, one for each test
abbrev pub verdict_lines : List (List ℕ × Verdict) → List ℕ
verdict_lines judged = flat_map (λ test. line (verdict_word test.1 ++ test.0)) judged
