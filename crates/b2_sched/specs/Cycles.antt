use Rattle.std.specs.Prelude.{◌≡◌, ◌≢◌, ◌↔◌, ℕ, ◌<◌, ◌≤◌, Bool, List, [], ◌∷◌, ◌++◌, length, slice_index_or}
use Rattle.std.specs.List.{Contains, AllPairs}
use Rattle.b2_runs.specs.Cycles.{LeadsOn}
use Rattle.b2_sched.specs.NumberSets.{Has}

-- step i needs step k, by the lists of dependents
abbrev pub NeedsIn : List (List ℕ) → ℕ → ℕ → Type 0
NeedsIn dependents i k = Contains (slice_index_or dependents k []) i

-- each of these leads to the number now, and the others where they led
pub record ArePointed (these : List ℕ) (number : ℕ) (next now : List ℕ) : Type 0 where
  pub size : length now ≡ length next
  pub those : (i : ℕ) → Contains these i → slice_index_or now i 0 ≡ number
  pub others : (i : ℕ) → (Contains these i → ⊥) → slice_index_or now i 0 ≡ slice_index_or next i 0

-- v is the lowest flagged number, from this one on, that step i needs; or 0 where there is none
pub record LeadsFrom (flags : List Bool) (dependents : List (List ℕ)) (from i v : ℕ) : Type 0 where
  pub none : v ≡ 0 → (k : ℕ) → from ≤ k → Has flags k → NeedsIn dependents i k → ⊥
  pub some : (v ≡ 0 → ⊥) → (from ≤ v) × Has flags v × NeedsIn dependents i v
  pub least : (k : ℕ) → from ≤ k → k < v → Has flags k → NeedsIn dependents i k → ⊥

-- each number leads to the lowest flagged one, from this number on, that it needs
pub record LeadTo (flags : List Bool) (dependents : List (List ℕ)) (from : ℕ) (next : List ℕ) : Type 0 where
  pub size : length next ≡ length flags
  pub each : (i : ℕ) → LeadsFrom flags dependents from i (slice_index_or next i 0)

-- step i leads to step k
abbrev pub Follows : List ℕ → ℕ → ℕ → Type 0
Follows next i k = slice_index_or next i 0 ≡ k

-- what leads on within the list
abbrev pub AreWithin : List ℕ → Type 0
AreWithin next = (i : ℕ) → i < length next → slice_index_or next i 0 < length next

-- what stands in a path from a step on
pub record IsRestFrom (path : List ℕ) (back : ℕ) (list : List ℕ) : Type 0 where
  pub front : List ℕ
  pub rest : List ℕ
  pub walk : path ≡ front ++ back ∷ rest
  pub list_is : list ≡ back ∷ rest

-- a path that begins at a step and leads to another one; the empty path leads from the step to itself
abbrev pub Goes : List ℕ → ℕ → List ℕ → ℕ → Type 0
Goes next first [] at = at ≡ first
Goes next first (p ∷ more) at = (p ≡ first) × LeadsOn (Follows next) (p ∷ more) at

-- the walk so far
pub record IsPathTo (next : List ℕ) (first : ℕ) (path : List ℕ) (at : ℕ) (seen : List Bool) : Type 0 where
  pub size : length seen ≡ length next
  pub within : at < length next
  pub goes : Goes next first path at
  pub once : AllPairs (λ i k. i ≢ k) path
  pub seen_are : (i : ℕ) → Has seen i ↔ Contains path i

-- the cycle to which the walk from a step comes
pub record IsWalkOf (next : List ℕ) (first : ℕ) (list : List ℕ) : Type 0 where
  pub more : List ℕ
  pub back : ℕ
  pub leads : LeadsOn (Follows next) (first ∷ more) back
  pub once : AllPairs (λ i k. i ≢ k) (first ∷ more)
  pub rest_is : IsRestFrom (first ∷ more) back list
