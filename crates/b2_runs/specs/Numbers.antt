use Rattle.std.specs.Prelude.{◌≡◌, ℕ, ◌+◌, ◌<◌, true, false, List, Some, count_by}
use Rattle.std.specs.List.{Contains}
use Rattle.b2_host.specs.declared.children.ChildEvent.{ChildEvent}
use Rattle.b2_host.specs.declared.children.ChildEvent.TheVariants.{Start, Done}
use Rattle.b2_plan.specs.declared.step.Step.{Step}
use Rattle.b2_plan.specs.Plans.{step_at, Makes}
use Rattle.b2_plan.specs.Sources.{IsMissing}
use Rattle.b2_plan.specs.Closures.{Value, Known, IsClosure}
use Rattle.b2_runs.specs.Staleness.{Update, IsStale}
use Rattle.b2_runs.specs.Events.{is_start, is_done}
use Rattle.b2_runs.specs.Runs.{on_settled}

-- Steps by their numbers alone: what a scheduler, which sees no path, is told of them.

-- the step makes a wanted file
pub record MakesWanted (u : Update) (i : ℕ) : Type 0 where
  pub step : Step
  pub path : List ℕ
  pub asked : Contains u.build.wanted path
  pub makes : Makes u.build.steps i step path

-- step i needs step k: it is known to read an output of it
pub record NeedsStep (u : Update) (events : List ChildEvent) (i k : ℕ) : Type 0 where
  pub step : Step
  pub at : step_at u.build.steps i ≡ Some step
  pub other : Step
  pub path : List ℕ
  pub known : Known u.build (on_settled u events) step path
  pub makes : Makes u.build.steps k other path

-- the step is known to read a missing path
pub record LacksSource (u : Update) (events : List ChildEvent) (i : ℕ) : Type 0 where
  pub step : Step
  pub at : step_at u.build.steps i ≡ Some step
  pub path : List ℕ
  pub known : Known u.build (on_settled u events) step path
  pub missing : IsMissing u.build path

-- the step's closure is defined on what is settled, and with it the step is stale
pub record IsStaleStep (u : Update) (events : List ChildEvent) (i : ℕ) : Type 0 where
  pub step : Step
  pub at : step_at u.build.steps i ≡ Some step
  pub members : List (List ℕ × Value)
  pub closure : IsClosure u.build (on_settled u events) step members
  pub stale : IsStale u events step members

-- the least set of numbers with the first ones and with all that those in it need
pub data NeededOf (First : ℕ → Type 0) (Needs : ℕ → ℕ → Type 0) : ℕ → Type 0 where
  first : (i : ℕ) → First i → NeededOf First Needs i
  of_needed : (i k : ℕ) → NeededOf First Needs k → Needs k i → NeededOf First Needs i

-- the least set of numbers that are left and lack a source, or need a failed one or one of this set; and all that are left,
-- where nothing goes on
pub data SkippedOf (Left Lacks Failed : ℕ → Type 0) (Needs : ℕ → ℕ → Type 0) (Ends : Type 0) : ℕ → Type 0 where
  lacks : (i : ℕ) → Left i → Lacks i → SkippedOf Left Lacks Failed Needs Ends i
  of_failed : (i k : ℕ) → Left i → Needs i k → Failed k → SkippedOf Left Lacks Failed Needs Ends i
  of_skipped : (i k : ℕ) → Left i → Needs i k → SkippedOf Left Lacks Failed Needs Ends k → SkippedOf Left Lacks Failed Needs Ends i
  ends : (i : ℕ) → Left i → Ends → SkippedOf Left Lacks Failed Needs Ends i

-- something has failed, and the update is to quit
pub record QuitsNow (u : Update) (events : List ChildEvent) : Type 0 where
  pub quit : u.quit ≡ true
  pub failed : ℕ
  pub bad : Contains events (Done failed false)

-- The step can start, by the numbers: it is needed, not started, and found stale; there is room; and the update goes on.
pub record CanStartBy (u : Update) (events : List ChildEvent) (Needed IsStale : ℕ → Type 0) (i : ℕ) : Type 0 where
  pub needed : Needed i
  pub not_started : Contains events (Start i) → ⊥
  pub stale : IsStale i
  pub room : count_by is_start events < count_by is_done events + u.jobs
  pub goes_on : QuitsNow u events → ⊥
