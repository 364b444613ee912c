use Rattle.std.specs.Prelude.{◌≡◌, ◌≢◌, ◌↔◌, ◌⊎◌, ℕ, true, false, List, [], ◌∷◌, ◌++◌, Some, None}
use Rattle.std.specs.List.{Contains}
use Rattle.b2_host.specs.declared.children.ChildEvent.{ChildEvent}
use Rattle.b2_host.specs.declared.children.ChildEvent.TheVariants.{Start, Done}
use Rattle.b2_host.specs.Disks.{Folder, Disk, without}
use Rattle.b2_host.specs.ChildProcesses.{Child, ChangesOnlyOutputs}
use Rattle.b2_plan.specs.declared.step.Step.{Step}
use Rattle.b2_plan.specs.Plans.{Apart, Makes, step_at}
use Rattle.b2_plan.specs.Sources.{IsGiven, IsMissing}
use Rattle.b2_plan.specs.Closures.{Known}
use Rattle.b2_log.specs.declared.line.LogLine.{LogLine}
use Rattle.b2_log.specs.declared.subject.Subject.TheVariants as subjects
use Rattle.b2_log.specs.Finding.{subject_of, find_record}
use Rattle.b2_runs.specs.Staleness.{Update}
use Rattle.b2_runs.specs.Runs.{Settled, on_settled, Needed, IsRunSoFar}
use Rattle.b2_runs.specs.Outcomes.{IsSettledStep, IsFailed, IsMissed, IsLeft, Skipped, AllWent, LeavesNothing}
use Rattle.b2_runs.specs.Numbers.{QuitsNow}
use Rattle.b2_runs.specs.Soundness.{AreAtWork}

-- ---- what is settled, and what is left

-- outputs settle together: where one is settled, the step is
abbrev pub OutputsSettleTogether : Type 0
OutputsSettleTogether = (u : Update) (events : List ChildEvent) (i : ℕ) (step : Step) (path : List ℕ) → Apart u.build.steps u.build.roots → Makes u.build.steps i step path → Settled u events path → IsSettledStep u events i

-- The step is known to read a missing path, or an output of a failed or skipped step.
pub record ReachesLost (u : Update) (events : List ChildEvent) (i : ℕ) : Type 0 where
  pub step : Step
  pub at : step_at u.build.steps i ≡ Some step
  pub path : List ℕ
  pub known : Known u.build (on_settled u events) step path
  pub lost : IsMissing u.build path ⊎ ((k : ℕ) × (other : Step) × Makes u.build.steps k other path × (IsFailed events k ⊎ Skipped u events k))

-- a needed step is skipped exactly where it reaches a failed, skipped or missing thing, unless the update quits
abbrev pub SkippedExactly : Type 0
SkippedExactly = (u : Update) (events : List ChildEvent) (i : ℕ) → Apart u.build.steps u.build.roots → IsRunSoFar u events → Needed u events i → (QuitsNow u events → ⊥) → Skipped u events i ↔ ReachesLost u events i

-- where it quits it is skipped exactly where it is left
abbrev pub SkippedWhereQuits : Type 0
SkippedWhereQuits = (u : Update) (events : List ChildEvent) (i : ℕ) → QuitsNow u events → Skipped u events i ↔ IsLeft u events i

-- all went well where each wanted file is given, each needed step is settled, and nothing failed
abbrev pub AllWentBySettled : Type 0
AllWentBySettled = (u : Update) (events : List ChildEvent) → ((path : List ℕ) → Contains u.build.wanted path → IsGiven u.build path) → ((i : ℕ) → Needed u events i → IsSettledStep u events i) → ((i : ℕ) → IsFailed events i → ⊥) → AllWent u events

-- where all went well each needed step is settled
abbrev pub AllWentSettles : Type 0
AllWentSettles = (u : Update) (events : List ChildEvent) (i : ℕ) → AllWent u events → Needed u events i → IsSettledStep u events i

-- where all went well no path is missing
abbrev pub AllWentMissesNothing : Type 0
AllWentMissesNothing = (u : Update) (events : List ChildEvent) (path : List ℕ) → Apart u.build.steps u.build.roots → IsRunSoFar u events → AllWent u events → IsMissed u events path → ⊥

-- ---- failures leave nothing

-- where nothing has failed, nothing is left of failures
abbrev pub NothingLeftAtEntry : Type 0
NothingLeftAtEntry = (u : Update) (now : Folder) (log : List LogLine) → LeavesNothing u [] now log

-- it stays so as a step starts, and as one is done well
abbrev pub NothingLeftAfterStart : Type 0
NothingLeftAfterStart = (u : Update) (events : List ChildEvent) (now : Folder) (log : List LogLine) (i : ℕ) → LeavesNothing u events now log → LeavesNothing u (events ++ Start i ∷ []) now log

abbrev pub NothingLeftAfterGoodEnd : Type 0
NothingLeftAfterGoodEnd = (u : Update) (events : List ChildEvent) (now : Folder) (log : List LogLine) (i : ℕ) → LeavesNothing u events now log → LeavesNothing u (events ++ Done i true ∷ []) now log

-- as one is done badly, where its outputs are removed and the log has no record for them
abbrev pub NothingLeftAfterBadEnd : Type 0
NothingLeftAfterBadEnd = (u : Update) (events : List ChildEvent) (now : Folder) (log : List LogLine) (i : ℕ) → LeavesNothing u events now log → ((step : Step) (path : List ℕ) → Makes u.build.steps i step path → now path ≡ None)
    → ((step : Step) → step_at u.build.steps i ≡ Some step → find_record step.outs log ≡ None) → LeavesNothing u (events ++ Done i false ∷ []) now log

-- while children work: none of them works for a failed step
abbrev pub NothingLeftThroughWork : Type 0
NothingLeftThroughWork = (u : Update) (events : List ChildEvent) (running : List Child) (before after : Disk) (log : List LogLine) → Apart u.build.steps u.build.roots → AreAtWork u events running → ChangesOnlyOutputs running before after → LeavesNothing u events before.now log → LeavesNothing u events after.now log

-- as a file is removed
abbrev pub NothingLeftAfterRemoval : Type 0
NothingLeftAfterRemoval = (u : Update) (events : List ChildEvent) (disk : Disk) (log : List LogLine) (path : List ℕ) → LeavesNothing u events disk.now log → LeavesNothing u events (without path disk).now log

-- and as a line is appended that is no record of a failed step: what was dropped stays dropped
abbrev pub NothingLeftAfterLine : Type 0
NothingLeftAfterLine = (u : Update) (events : List ChildEvent) (now : Folder) (log : List LogLine) (line : LogLine) → ((i : ℕ) (step : Step) → IsFailed events i → step_at u.build.steps i ≡ Some step → subject_of line ≢ subjects.Outputs step.outs)
    → LeavesNothing u events now log → LeavesNothing u events now (log ++ line ∷ [])
