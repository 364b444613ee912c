use Rattle.std.specs.Prelude.{◌≡◌, ℕ, ◌≤◌, List, Some, count_by}
use Rattle.std.specs.List.{Contains}
use Rattle.b2_host.specs.declared.children.ChildEvent.{ChildEvent}
use Rattle.b2_plan.specs.declared.step.Step.{Step}
use Rattle.b2_plan.specs.Plans.{Apart, Makes, step_at}
use Rattle.b2_plan.specs.Closures.{Known}
use Rattle.b2_runs.specs.Staleness.{Update}
use Rattle.b2_runs.specs.Events.{IsOpen, is_start, is_done}
use Rattle.b2_runs.specs.Runs.{on_settled, IsRunSoFar, IsRun}
use Rattle.b2_runs.specs.Outcomes.{IsSettledStep, IsStuck}
use Rattle.b2_runs.specs.Cycles.{IsLowest, NextStuck, IsStepCycle}

-- where a stuck step needs an output of a step that is not settled, that step is stuck too
abbrev pub StuckByStuck : Type 0
StuckByStuck = (u : Update) (events : List ChildEvent) (i k : ℕ) (step other : Step) (path : List ℕ) → IsStuck u events i → step_at u.build.steps i ≡ Some step → Known u.build (on_settled u events) step path
    → Makes u.build.steps k other path → (IsSettledStep u events k → ⊥) → IsStuck u events k

-- a stuck step needs a stuck step, where a list has all that it is known to read
abbrev pub StuckNeedsStuck : Type 0
StuckNeedsStuck = (u : Update) (events : List ChildEvent) (i : ℕ) (step : Step) (names : List (List ℕ)) → Apart u.build.steps u.build.roots → 1 ≤ u.jobs → IsRun u events → IsStuck u events i → step_at u.build.steps i ≡ Some step
    → ((path : List ℕ) → Known u.build (on_settled u events) step path → Contains names path)
    → ¬ ((path : List ℕ) (k : ℕ) (other : Step) → Known u.build (on_settled u events) step path → Makes u.build.steps k other path → ¬ IsStuck u events k)

-- where nothing is open, as many steps are done as were started
abbrev pub StartsAreDone : Type 0
StartsAreDone = (u : Update) (events : List ChildEvent) → IsRunSoFar u events → ((i : ℕ) → IsOpen events i → ⊥) → count_by is_start events ≡ count_by is_done events

-- the list of a step cycle is one
abbrev pub StepCycleIsOne : Type 0
StepCycleIsOne = (u : Update) (events : List ChildEvent) (list other : List ℕ) → IsStepCycle u events list → IsStepCycle u events other → list ≡ other

-- where each stuck step has a lowest stuck step whose output it needs, and this one is the lowest, there is a step cycle
abbrev pub StepCycleIsThere : Type 0
StepCycleIsThere = (u : Update) (events : List ChildEvent) (first : ℕ) → IsLowest (IsStuck u events) first → ((i : ℕ) → IsStuck u events i → (k : ℕ) × NextStuck u events i k) → (list : List ℕ) × IsStepCycle u events list

-- so where a step is stuck there is one, if for each stuck step a list has all that it is known to read
abbrev pub StuckIsCycle : Type 0
StuckIsCycle = (u : Update) (events : List ChildEvent) (i : ℕ) (reads : ℕ → List (List ℕ)) → Apart u.build.steps u.build.roots → 1 ≤ u.jobs → IsRun u events → IsStuck u events i
    → ((k : ℕ) (step : Step) (path : List ℕ) → IsStuck u events k → step_at u.build.steps k ≡ Some step → Known u.build (on_settled u events) step path → Contains (reads k) path)
    → ¬ ((list : List ℕ) → ¬ IsStepCycle u events list)
