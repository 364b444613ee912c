use Rattle.std.specs.Prelude.{◌≡◌, ◌≢◌, ◌⊎◌, ◌↔◌, ℕ, ◌+◌, ◌<◌, ◌≤◌, Bool, true, false, List, [], ◌∷◌, ◌++◌, length, slice_index_or, slice_set, Option, Some, None}
use Rattle.std.specs.List.{Contains}
use Rattle.b2_sched.specs.declared.state.State.{State}
use Rattle.b2_sched.specs.declared.state.State.TheVariants.{Unjudged, Stale, Running, Settled, Failed}
use Rattle.b2_plan.specs.declared.step.Step.{Step}
use Rattle.b2_sched.specs.SchedulerCalls.{MakesOneOf}
use Rattle.b2_sched.specs.NumberSets.{Has}
use Rattle.b2_sched.specs.Schedules.{Schedule, IsUnjudged, IsStale, IsSettled, IsStep, Needs, IsNeeded, CanLook, dependents_of, running}

-- step k is needed, as the code tells it: it has dependents
abbrev pub IsAsked : Schedule → ℕ → Type 0
IsAsked s k = dependents_of s k ≢ []

-- What the scheduler keeps: which steps are to be started, and how many run.
pub record IsKept (s : Schedule) (starts : List Bool) (count : ℕ) : Type 0 where
  pub dependents_size : length s.dependents ≡ length s.states
  pub lacking_size : length s.lacking ≡ length s.states
  pub looks_size : length s.looks ≡ length s.states
  pub starts_size : length starts ≡ length s.states
  pub some : 0 < length s.states
  pub few : length s.states ≤ 65537
  pub request : IsSettled s 0
  pub no_need : dependents_of s 0 ≡ []
  pub within : (i k : ℕ) → Needs s i k → i < length s.states
  pub known : (i k : ℕ) → Needs s i k → (i ≡ 0) ⊎ IsAsked s i
  pub needed : (k : ℕ) → IsAsked s k → IsNeeded s k
  pub idle : (i : ℕ) → IsStep s i → dependents_of s i ≡ [] → IsUnjudged s i
  pub looks : (i : ℕ) → CanLook s i → IsAsked s i × IsUnjudged s i
  pub starts_are : (i : ℕ) → Has starts i ↔ IsStale s i
  pub count_is : count ≡ running s

abbrev pub is_unjudged : State → Bool
is_unjudged Unjudged = true
is_unjudged Stale = false
is_unjudged Running = false
is_unjudged Settled = false
is_unjudged Failed = false

abbrev pub is_failed : State → Bool
is_failed Unjudged = false
is_failed Stale = false
is_failed Running = false
is_failed Settled = false
is_failed Failed = true

-- those of the dependents that are not judged can be looked at too
pub record IsWoken (states : List State) (dependents : List ℕ) (looks woken : List Bool) : Type 0 where
  pub size : length woken ≡ length looks
  pub looks_are : (i : ℕ) → Has woken i ↔ (Has looks i ⊎ ((slice_index_or states i Settled ≡ Unjudged) × Contains dependents i))

-- the lowest step that can be looked at; it is needed and not judged
pub record LooksNext (s : Schedule) (step : ℕ) : Type 0 where
  pub is_step : IsStep s step
  pub can : CanLook s step
  pub lowest : (k : ℕ) → k < step → CanLook s k → ⊥
  pub needed : IsNeeded s step
  pub unjudged : IsUnjudged s step

-- the request asks for the step that was found
abbrev pub asked_too : Option ℕ → List (List ℕ) → List (List ℕ)
asked_too None dependents = dependents
asked_too (Some k) dependents = slice_set dependents k (slice_index_or dependents k [] ++ 0 ∷ [])

abbrev pub looked_too : Option ℕ → List Bool → List Bool
looked_too None looks = looks
looked_too (Some k) looks = slice_set looks k true

-- the request asks for the makers of these files, and nothing else was asked for
pub record AreWanted (steps : List Step) (wanted : List (List ℕ)) (dependents : List (List ℕ)) (looks : List Bool) : Type 0 where
  pub dependents_size : length dependents ≡ length steps + 1
  pub looks_size : length looks ≡ length steps + 1
  pub needs : (i k : ℕ) → Contains (slice_index_or dependents k []) i ↔ ((i ≡ 0) × MakesOneOf steps wanted k)
  pub looks_are : (k : ℕ) → Has looks k ↔ MakesOneOf steps wanted k

-- the flag tells whether some step failed
abbrev pub TellsFailure : List State → Bool → Type 0
TellsFailure states any = any ≡ true ↔ ((i : ℕ) × (slice_index_or states i Settled ≡ Failed))
