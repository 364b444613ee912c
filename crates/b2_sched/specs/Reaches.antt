use Rattle.std.specs.Prelude.{◌≡◌, ◌⊎◌, ℕ, ◌<◌, Bool, List, length}
use Rattle.std.specs.List.{Contains}
use Rattle.b2_runs.specs.Numbers.{NeededOf}
use Rattle.b2_sched.specs.NumberSets.{Has}
use Rattle.b2_sched.specs.Cycles.{NeedsIn}

-- The least set of numbers with the first ones, and with all dependents of those in it.
abbrev pub Reached : List ℕ → List (List ℕ) → ℕ → Type 0
Reached first dependents = NeededOf (Contains first) (λ k i. NeedsIn dependents i k)

-- A search for them: what was found is reached, and the rest is found by the dependents of those pending.
pub record IsReach (first : List ℕ) (dependents : List (List ℕ)) (left found : List Bool) (pending : List ℕ) : Type 0 where
  pub left_are : (i : ℕ) → i < length dependents → Has left i
  pub left_size : length left ≡ length dependents
  pub found_size : length found ≡ length dependents
  pub sound : (i : ℕ) → Has found i → Reached first dependents i
  pub pending_are : (k : ℕ) → Contains pending k → Has found k
  pub begun : (i : ℕ) → Contains first i → Has found i
  pub closed : (i k : ℕ) → NeedsIn dependents i k → Has found k → Has found i ⊎ Contains pending k
