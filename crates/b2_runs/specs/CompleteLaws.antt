use Rattle.std.specs.Prelude.{◌≡◌, ℕ, ◌≤◌, Bool, List}
use Rattle.std.specs.List.{Contains}
use Rattle.b2_host.specs.declared.children.ChildEvent.{ChildEvent}
use Rattle.b2_host.specs.declared.children.ChildEvent.TheVariants.{Start, Done}
use Rattle.b2_plan.specs.declared.step.Step.{Step}
use Rattle.b2_plan.specs.Plans.{Apart, Makes}
use Rattle.b2_plan.specs.Closures.{Value}
use Rattle.b2_plan.specs.Cleans.{Clean}
use Rattle.b2_runs.specs.Staleness.{Update}
use Rattle.b2_runs.specs.Runs.{Settled, Needed, MayCome, IsRunSoFar, IsRun}
use Rattle.b2_runs.specs.Outcomes.{IsFailed, IsMissed, IsLeft}

-- The clean build has a value for each wanted file and for each output of a needed step.
pub record CleanIsDefined (u : Update) (events : List ChildEvent) : Type 0 where
  pub wanted : (path : List ℕ) → Contains u.build.wanted path → (value : Value) × Clean u.build path value
  pub outputs : (i : ℕ) (step : Step) (path : List ℕ) → Needed u events i → Makes u.build.steps i step path → (value : Value) × Clean u.build path value

-- where the clean build is defined and nothing failed, no needed step is left: none is skipped, and none is stuck
abbrev pub NothingIsLeft : Type 0
NothingIsLeft = (u : Update) (events : List ChildEvent) → Apart u.build.steps u.build.roots → 1 ≤ u.jobs → IsRun u events → CleanIsDefined u events → ((i : ℕ) → ¬ IsFailed events i) → (i : ℕ) → ¬ IsLeft u events i

-- where the clean build is defined no path is missing
abbrev pub NothingIsMissed : Type 0
NothingIsMissed = (u : Update) (events : List ChildEvent) → Apart u.build.steps u.build.roots → CleanIsDefined u events → (path : List ℕ) → ¬ IsMissed u events path

-- one start at most may come
abbrev pub StartIsOne : Type 0
StartIsOne = (u : Update) (events : List ChildEvent) (i k : ℕ) → MayCome u events (Start i) → MayCome u events (Start k) → i ≡ k

-- where a start may come, no end may
abbrev pub StartsComeFirst : Type 0
StartsComeFirst = (u : Update) (events : List ChildEvent) (i k : ℕ) (well : Bool) → MayCome u events (Start i) → ¬ MayCome u events (Done k well)

-- no output of a failed step is settled
abbrev pub FailedIsNotSettled : Type 0
FailedIsNotSettled = (u : Update) (events : List ChildEvent) (i : ℕ) (step : Step) (path : List ℕ) → Apart u.build.steps u.build.roots → IsRunSoFar u events → IsFailed events i → Makes u.build.steps i step path → ¬ Settled u events path
