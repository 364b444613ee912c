use Rattle.std.specs.Prelude.{◌≡◌, ℕ, ◌<◌, true, false, List, Some, None, ◌⊎◌}
use Rattle.std.specs.List.{Contains, AllPairs}
use Rattle.b2_host.specs.declared.children.ChildEvent.{ChildEvent}
use Rattle.b2_host.specs.declared.children.ChildEvent.TheVariants.{Start, Done}
use Rattle.b2_host.specs.Disks.{Folder, bytes_at}
use Rattle.b2_plan.specs.declared.step.Step.{Step}
use Rattle.b2_plan.specs.Plans.{step_at, Makes}
use Rattle.b2_host.specs.FileCalls.{log_path}
use Rattle.b2_plan.specs.Sources.{Build, IsGiven, IsMissing}
use Rattle.b2_plan.specs.Closures.{Known}
use Rattle.b2_base.specs.Bytes.{Before}
use Rattle.b2_plan.specs.Cleans.{Clean}
use Rattle.b2_log.specs.declared.line.LogLine.{LogLine}
use Rattle.b2_log.specs.Finding.{find_record}
use Rattle.b2_runs.specs.Staleness.{Update}
use Rattle.b2_runs.specs.Runs.{Settled, on_settled, Needed}

-- each output of the step is settled
abbrev pub IsSettledStep : Update → List ChildEvent → ℕ → Type 0
IsSettledStep u events i = (step : Step) (path : List ℕ) → Makes u.build.steps i step path → Settled u events path

-- the step was done badly, or as it counts: it ended well and left an output out
abbrev pub IsFailed : List ChildEvent → ℕ → Type 0
IsFailed events i = Contains events (Done i false)

-- the missing path is wanted, or is an input of a needed step
pub record IsMissed (u : Update) (events : List ChildEvent) (path : List ℕ) : Type 0 where
  pub missing : IsMissing u.build path
  pub asked : Contains u.build.wanted path ⊎ ((i : ℕ) × (step : Step) × Needed u events i × (step_at u.build.steps i ≡ Some step) × Contains step.ins path)

-- the step is needed, and neither settled nor failed
pub record IsLeft (u : Update) (events : List ChildEvent) (i : ℕ) : Type 0 where
  pub needed : Needed u events i
  pub not_settled : IsSettledStep u events i → ⊥
  pub not_failed : IsFailed events i → ⊥

-- The least set of steps that are left and have a known member that is missing, or is an output of a failed or skipped
-- step. Where the update is to quit and something failed, it is all that are left.
pub data Skipped (u : Update) (events : List ChildEvent) : ℕ → Type 0 where
  missing : (i : ℕ) (step : Step) (path : List ℕ) → IsLeft u events i → step_at u.build.steps i ≡ Some step → Known u.build (on_settled u events) step path → IsMissing u.build path → Skipped u events i
  failed : (i : ℕ) (step : Step) (path : List ℕ) (k : ℕ) (other : Step) → IsLeft u events i → step_at u.build.steps i ≡ Some step → Known u.build (on_settled u events) step path → Makes u.build.steps k other path → IsFailed events k → Skipped u events i
  skipped : (i : ℕ) (step : Step) (path : List ℕ) (k : ℕ) (other : Step) → IsLeft u events i → step_at u.build.steps i ≡ Some step → Known u.build (on_settled u events) step path → Makes u.build.steps k other path → Skipped u events k → Skipped u events i
  quits : (i k : ℕ) → IsLeft u events i → u.quit ≡ true → IsFailed events k → Skipped u events i

-- the step is needed, and neither settled, failed nor skipped
pub record IsStuck (u : Update) (events : List ChildEvent) (i : ℕ) : Type 0 where
  pub left : IsLeft u events i
  pub not_skipped : Skipped u events i → ⊥

-- no needed step is stuck: each is settled, failed or skipped
abbrev pub NoneStuck : Update → List ChildEvent → Type 0
NoneStuck u events = (i : ℕ) → Needed u events i → IsSettledStep u events i ⊎ IsFailed events i ⊎ Skipped u events i

-- All went well: each wanted file is a source or an output, nothing failed or was skipped, and nothing is stuck.
pub record AllWent (u : Update) (events : List ChildEvent) : Type 0 where
  pub given : (path : List ℕ) → Contains u.build.wanted path → IsGiven u.build path
  pub none_failed : (i : ℕ) → IsFailed events i → ⊥
  pub none_skipped : (i : ℕ) → Skipped u events i → ⊥
  pub none_stuck : NoneStuck u events

-- the numbers with the property, in rising order
pub record IsListOf (P : ℕ → Type 0) (list : List ℕ) : Type 0 where
  pub rising : AllPairs (λ i k. i < k) list
  pub each : (i : ℕ) → Contains list i → P i
  pub whole : (i : ℕ) → P i → Contains list i

-- the paths with the property, in byte order
pub record ArePathsOf (P : List ℕ → Type 0) (list : List (List ℕ)) : Type 0 where
  pub rising : AllPairs Before list
  pub each : (path : List ℕ) → Contains list path → P path
  pub whole : (path : List ℕ) → P path → Contains list path

-- each settled output of a needed step, but for those of notfile steps, has the bytes of the clean build
abbrev pub HasCleanBytes : Update → List ChildEvent → Folder → Type 0
HasCleanBytes u events now = (i : ℕ) (step : Step) (path : List ℕ) → Needed u events i → Makes u.build.steps i step path → Settled u events path → step.notfile ≡ false
    → (bytes : List ℕ) × Clean u.build path (Some bytes) × (bytes_at now path ≡ Some bytes)

-- each wanted file has the bytes of the clean build, but for those of notfile steps, which have none
abbrev pub IsCleanBuild : Build → Folder → Type 0
IsCleanBuild b now = (path : List ℕ) → Contains b.wanted path
    → ((bytes : List ℕ) × Clean b path (Some bytes) × (bytes_at now path ≡ Some bytes)) ⊎ ((i : ℕ) × (step : Step) × Makes b.steps i step path × (step.notfile ≡ true))

-- No output of a failed step stands, and the log has no record for its outputs.
pub record LeavesNothing (u : Update) (events : List ChildEvent) (now : Folder) (log : List LogLine) : Type 0 where
  pub files : (i : ℕ) (step : Step) (path : List ℕ) → IsFailed events i → Makes u.build.steps i step path → now path ≡ None
  pub records : (i : ℕ) (step : Step) → IsFailed events i → step_at u.build.steps i ≡ Some step → find_record step.outs log ≡ None

-- nothing but the log and outputs of started steps has changed
abbrev pub OnlyOutputsChange : Update → List ChildEvent → Folder → Folder → Type 0
OnlyOutputsChange u events before now = (path : List ℕ) → (path ≡ log_path → ⊥) → ((i : ℕ) (step : Step) → Contains events (Start i) → Makes u.build.steps i step path → ⊥) → now path ≡ before path
