use Rattle.std.specs.Prelude.{◌≡◌, ◌⊎◌, ◌↔◌, ℕ, ◌+◌, ◌&&◌, Bool, true, false, not, List, [], ◌∷◌, ◌++◌, length, slice_index_or, slice_set, count_by, if◌then◌else◌}
use Rattle.std.specs.List.{Contains}
use Rattle.b2_sched.specs.declared.state.State.{State}
use Rattle.b2_sched.specs.declared.state.State.TheVariants.{Unjudged, Stale, Running, Settled, Failed}
use Rattle.b2_sched.specs.NumberSets.{Has}
use Rattle.b2_sched.specs.SchedulerCalls.{is_empty}
use Rattle.b2_sched.specs.Schedules.{Schedule, Needs, Lacks, IsFailed, IsLeft, IsSkipped}

-- the flags of the steps that are left and were not found
pub record AreStuckFlags (left found flags : List Bool) : Type 0 where
  pub size : length flags ≡ length left
  pub each : (i : ℕ) → slice_index_or flags i false ≡ (slice_index_or left i false && not (slice_index_or found i false))

-- a step with this state and these dependents is left: it is needed, and neither settled nor failed
abbrev pub is_left : State → List ℕ → Bool
is_left Unjudged dependents = not (is_empty dependents)
is_left Stale dependents = not (is_empty dependents)
is_left Running dependents = not (is_empty dependents)
is_left Settled dependents = false
is_left Failed dependents = false

-- for each number whether its step is left
pub record AreLeftFlags (states : List State) (dependents : List (List ℕ)) (flags : List Bool) : Type 0 where
  pub size : length flags ≡ length states
  pub each : (i : ℕ) → slice_index_or flags i false ≡ is_left (slice_index_or states i Settled) (slice_index_or dependents i [])

-- the number is that of a step that is left and was not found
abbrev pub is_new : List Bool → List Bool → ℕ → Bool
is_new left found i = slice_index_or left i false && not (slice_index_or found i false)

abbrev pub found_too : List Bool → List Bool → ℕ → List Bool
found_too left found i = if is_new left found i then slice_set found i true else found

abbrev pub pending_too : List Bool → List Bool → List ℕ → ℕ → List ℕ
pending_too left found pending i = if is_new left found i then pending ++ i ∷ [] else pending

-- Of the numbers those that are left were found, and what was not found before is pending.
pub record AreFound (left : List Bool) (numbers : List ℕ) (found : List Bool) (pending : List ℕ) (now : List Bool) (after : List ℕ) : Type 0 where
  pub size : length now ≡ length found
  pub found_are : (i : ℕ) → Has now i ↔ (Has found i ⊎ (Has left i × Contains numbers i))
  pub pending_were : (i : ℕ) → Contains after i → Contains pending i ⊎ Has now i
  pub pending_stay : (i : ℕ) → Contains pending i → Contains after i
  pub new_pending : (i : ℕ) → Has now i → Has found i ⊎ Contains after i
  pub count : count_by not now + length after ≡ count_by not found + length pending

-- A search for the skipped steps: what was found is skipped, and the rest is found by the dependents of those pending.
pub record IsSearch (s : Schedule) (left found : List Bool) (pending : List ℕ) : Type 0 where
  pub left_are : (i : ℕ) → Has left i ↔ IsLeft s i
  pub left_size : length left ≡ length s.states
  pub found_size : length found ≡ length s.states
  pub sound : (i : ℕ) → Has found i → IsSkipped s false i
  pub pending_are : (k : ℕ) → Contains pending k → IsFailed s k ⊎ Has found k
  pub lacking : (i : ℕ) → IsLeft s i → Lacks s i → Has found i
  pub closed : (i k : ℕ) → IsLeft s i → Needs s i k → (IsFailed s k ⊎ Has found k) → Has found i ⊎ Contains pending k
