use Rattle.std.specs.Prelude.{◌≡◌, ◌≢◌, ◌⊎◌, ℕ, Bool, true, false, List, Some}
use Rattle.std.specs.List.{Contains, AllPairs}
use Rattle.b2_host.specs.declared.children.ChildEvent.{ChildEvent}
use Rattle.b2_host.specs.ChildProcesses.{Child}
use Rattle.b2_plan.specs.declared.step.Step.{Step}
use Rattle.b2_plan.specs.Plans.{step_at, Makes}
use Rattle.b2_runs.specs.Events.{IsOpen}

-- The children that run, by the events, by the plan and by which numbers of steps are settled. All this holds over every host, for
-- no file has to be visible.

-- The children that run are those of the open steps, each once.
pub record AreOfOpenSteps (events : List ChildEvent) (running : List Child) : Type 0 where
  pub each : (child : Child) → Contains running child → IsOpen events child.step
  pub once : AllPairs (λ child other. child.step ≢ other.step) running
  pub whole : (i : ℕ) → IsOpen events i → (child : Child) × Contains running child × (child.step ≡ i)

-- each of these paths that a step makes is made by a settled one
abbrev pub MadeBySettled : List Step → (ℕ → Bool) → List (List ℕ) → Type 0
MadeBySettled steps settled paths = (path : List ℕ) (i : ℕ) (step : Step) → Contains paths path → Makes steps i step path → settled i ≡ true

-- The child is that of the step with its number, which is not settled: it writes the step's outputs, and reads what settled
-- steps make.
pub record IsPlanChild (steps : List Step) (settled : ℕ → Bool) (child : Child) : Type 0 where
  pub step : Step
  pub at : step_at steps child.step ≡ Some step
  pub not_settled : settled child.step ≡ false
  pub outs : child.outs ≡ step.outs
  pub ins : MadeBySettled steps settled child.ins

-- each child that runs is such a one
abbrev pub ArePlanChildren : List Step → (ℕ → Bool) → List Child → Type 0
ArePlanChildren steps settled running = (child : Child) → Contains running child → IsPlanChild steps settled child

-- later the same steps are settled, and perhaps this one more
pub record SettlesOne (settled : ℕ → Bool) (i : ℕ) (later : ℕ → Bool) : Type 0 where
  pub stays : (k : ℕ) → settled k ≡ true → later k ≡ true
  pub no_other : (k : ℕ) → later k ≡ true → (settled k ≡ true) ⊎ (k ≡ i)
