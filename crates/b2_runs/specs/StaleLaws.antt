use Rattle.std.specs.Prelude.{◌≡◌, List, ℕ, Some}
use Rattle.std.specs.List.{Contains}
use Rattle.b2_host.specs.declared.children.ChildEvent.{ChildEvent}
use Rattle.b2_host.specs.declared.children.ChildEvent.TheVariants.{Start}
use Rattle.b2_plan.specs.declared.step.Step.{Step}
use Rattle.b2_plan.specs.Plans.{Apart, step_at}
use Rattle.b2_plan.specs.Closures.{Value, IsClosure}
use Rattle.b2_plan.specs.Cleans.{Clean}
use Rattle.b2_runs.specs.Staleness.{Update, IsStale, StalePoint}
use Rattle.b2_runs.specs.Runs.{IsRunSoFar}

-- a step is stale where one of the five points holds
abbrev pub StaleByPoint : Type 0
StaleByPoint = (u : Update) (events : List ChildEvent) (step : Step) (members : List (List ℕ × Value)) → StalePoint u events step members → IsStale u events step members

-- a step is not stale where none of the five points holds
abbrev pub StaleByPointAlone : Type 0
StaleByPointAlone = (u : Update) (events : List ChildEvent) (step : Step) (members : List (List ℕ × Value)) → ¬ StalePoint u events step members → ¬ IsStale u events step members

-- a step that was started is stale, as it was then
abbrev pub StartedIsStale : Type 0
StartedIsStale = (u : Update) (events : List ChildEvent) (i : ℕ) (step : Step) (members : List (List ℕ × Value)) → Apart u.build.steps u.build.roots → IsRunSoFar u events → Contains events (Start i) → step_at u.build.steps i ≡ Some step → IsClosure u.build (Clean u.build) step members
    → IsStale u events step members
