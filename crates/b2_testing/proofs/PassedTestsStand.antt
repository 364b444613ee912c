-- The marker of a test that passed stands with its clean bytes.
use Rattle.std.proofs.Common.{◌≡◌, ◌⊎◌, inl, inr, ℕ, false, List, Some, refl}
use Rattle.std.specs.List.{Contains}
use Rattle.b2_host.specs.declared.children.ChildEvent.{ChildEvent}
use Rattle.b2_host.specs.Disks.{Folder, bytes_at}
use Rattle.b2_plan.specs.declared.step.Step.{Step}
use Rattle.b2_plan.specs.Plans.{Makes}
use Rattle.b2_plan.specs.Cleans.{Clean}
use Rattle.b2_runs.specs.Staleness.{Update}
use Rattle.b2_runs.specs.Runs.{Needed}
use Rattle.b2_runs.specs.Outcomes.{IsSettledStep, IsFailed, Skipped}
use Rattle.b2_runs.specs.Reports.{Lists, AreLists}
use Rattle.b2_runs.specs.UpdateAnswers.{all_went, failed, step_cycle, too_big, host_fault, sink_fault, out_of_memory, HasEnded}
use Rattle.b2_runs.proofs.SkippedExactly.{all_went_settles}
use Rattle.b2_testing.specs.declared.verdict.Verdict.{Verdict}
use Rattle.b2_testing.specs.declared.verdict.Verdict.TheVariants.{Passed}
use Rattle.b2_testing.specs.Verdicts.{IsJudgedBy, has_passed, has_failed, was_not_run}
use Rattle.b2_testing.specs.Laws.{PassedStands}

-- a test that passed neither failed nor was skipped
passed_means : (steps : List Step) (lists : Lists) (m : ℕ) (verdict : Verdict) → IsJudgedBy steps lists m verdict → verdict ≡ Passed → (Contains lists.failed m → ⊥) × (Contains lists.skipped m → ⊥)
passed_means steps lists m verdict (has_passed f s) e = (f, s)
passed_means steps lists m verdict (has_failed d) e = cc
passed_means steps lists m verdict (was_not_run s f r) e = cc

-- what neither failed nor was skipped is settled
settled_else : (u : Update) (events : List ChildEvent) (m : ℕ) (lists : Lists) → AreLists u events lists → (Contains lists.failed m → ⊥) × (Contains lists.skipped m → ⊥) → IsSettledStep u events m ⊎ IsFailed events m ⊎ Skipped u events m → IsSettledStep u events m
settled_else u events m lists are none (inl settled) = settled
settled_else u events m lists are none (inr (inl bad)) = absurd (none.0 (are.failed.whole m bad))
settled_else u events m lists are none (inr (inr lost)) = absurd (none.1 (are.skipped.whole m lost))

-- an output of a settled step that makes files stands
stands : (u : Update) (events : List ChildEvent) (now : Folder) (m : ℕ) (step : Step) (path : List ℕ) → HasEnded u events now → Needed u events m → Makes u.build.steps m step path → step.notfile ≡ false → IsSettledStep u events m
    → (bytes : List ℕ) × Clean u.build path (Some bytes) × (bytes_at now path ≡ Some bytes)
stands u events now m step path ended needed makes file settled = ended.clean m step path needed makes (settled step path makes) file

pub passed_stands : PassedStands
passed_stands u events now all_went m step path told needed makes file passed = stands u events now m step path told.0 needed makes file (all_went_settles u events m told.1 needed)
passed_stands u events now (failed lists) m step path told needed makes file passed =
    stands u events now m step path told.0 needed makes file (settled_else u events m lists told.2 (passed_means u.build.steps lists m Passed passed refl) (told.1 m needed))
passed_stands u events now (step_cycle list) m step path told needed makes file passed = absurd passed
passed_stands u events now (too_big big size) m step path told needed makes file passed = absurd passed
passed_stands u events now host_fault m step path told needed makes file passed = absurd passed
passed_stands u events now sink_fault m step path told needed makes file passed = absurd passed
passed_stands u events now out_of_memory m step path told needed makes file passed = absurd passed
