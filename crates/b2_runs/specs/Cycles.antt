use Rattle.std.specs.Prelude.{◌≡◌, ◌≢◌, ℕ, ◌<◌, List, [], ◌∷◌, ◌++◌, Some, ⊤}
use Rattle.std.specs.List.{AllPairs}
use Rattle.b2_host.specs.declared.children.ChildEvent.{ChildEvent}
use Rattle.b2_plan.specs.declared.step.Step.{Step}
use Rattle.b2_plan.specs.Plans.{step_at, Makes}
use Rattle.b2_plan.specs.Closures.{Known}
use Rattle.b2_runs.specs.Staleness.{Update}
use Rattle.b2_runs.specs.Runs.{on_settled}
use Rattle.b2_runs.specs.Outcomes.{IsStuck}

-- the lowest number with the property
pub record IsLowest (P : ℕ → Type 0) (i : ℕ) : Type 0 where
  pub has : P i
  pub lowest : (k : ℕ) → k < i → P k → ⊥

-- Step k is stuck, and step i is known to read an output of it.
pub record NeedsStuck (u : Update) (events : List ChildEvent) (i k : ℕ) : Type 0 where
  pub stuck : IsStuck u events k
  pub step : Step
  pub at : step_at u.build.steps i ≡ Some step
  pub other : Step
  pub path : List ℕ
  pub makes : Makes u.build.steps k other path
  pub known : Known u.build (on_settled u events) step path

-- the lowest stuck step whose output the one step needs
abbrev pub NextStuck : Update → List ChildEvent → ℕ → ℕ → Type 0
NextStuck u events i = IsLowest (NeedsStuck u events i)

-- each of these numbers leads to the one after it, and the last leads to `back`
abbrev pub LeadsOn : (ℕ → ℕ → Type 0) → List ℕ → ℕ → Type 0
LeadsOn R [] back = ⊤
LeadsOn R (i ∷ []) back = R i back
LeadsOn R (i ∷ k ∷ more) back = R i k × LeadsOn R (k ∷ more) back

-- The list of a step cycle. A walk starts from the lowest stuck step and goes on to the lowest stuck step whose output the
-- present one needs, until a step repeats. The list is what stands from that step's first place.
pub record IsStepCycle (u : Update) (events : List ChildEvent) (list : List ℕ) : Type 0 where
  pub first : ℕ
  pub more : List ℕ
  pub starts : IsLowest (IsStuck u events) first
  pub back : ℕ
  pub leads : LeadsOn (NextStuck u events) (first ∷ more) back
  pub once : AllPairs (λ i k. i ≢ k) (first ∷ more)
  pub front : List ℕ
  pub rest : List ℕ
  pub walk : first ∷ more ≡ front ++ back ∷ rest
  pub list_is : list ≡ back ∷ rest
