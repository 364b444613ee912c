use Rattle.std.specs.Prelude.{◌≡◌, ◌≢◌, ℕ, List, ◌∷◌, ◌++◌}
use Rattle.std.specs.List.{AllPairs}
use Rattle.b2_runs.specs.Cycles.{IsLowest, LeadsOn}
use Rattle.b2_sched.specs.Schedules.{Schedule, Needs, IsStuck, GoesOn}

-- the lowest of these that the step needs
abbrev pub NextOf : (ℕ → Type 0) → (ℕ → ℕ → Type 0) → ℕ → ℕ → Type 0
NextOf Stuck Needs i = IsLowest (λ k. Stuck k × Needs i k)

-- A walk starts from the lowest of these steps and goes on to the lowest of them that the present one needs, until a step
-- repeats. The list is what stands from that step's first place.
pub record IsCycleOf (Stuck : ℕ → Type 0) (Needs : ℕ → ℕ → Type 0) (list : List ℕ) : Type 0 where
  pub first : ℕ
  pub more : List ℕ
  pub starts : IsLowest Stuck first
  pub back : ℕ
  pub leads : LeadsOn (NextOf Stuck Needs) (first ∷ more) back
  pub once : AllPairs (λ i k. i ≢ k) (first ∷ more)
  pub front : List ℕ
  pub rest : List ℕ
  pub walk : first ∷ more ≡ front ++ back ∷ rest
  pub list_is : list ≡ back ∷ rest

-- nothing goes on, and steps are stuck: this is their cycle
pub record IsStepCycle (s : Schedule) (list : List ℕ) : Type 0 where
  pub rests : GoesOn s → ⊥
  pub cycle : IsCycleOf (IsStuck s) (Needs s) list
