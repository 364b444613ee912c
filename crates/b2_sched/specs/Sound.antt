use Rattle.std.specs.Prelude.{◌≡◌, ℕ, length}
use Rattle.b2_sched.specs.Schedules.{Schedule, IsUnjudged, IsSettled, IsStep, IsNeeded, CanLook}

-- What holds of each scheduler: needed numbers are those of steps, steps that can be looked at are needed and not judged, and
-- judged steps are needed.
pub record IsSound (s : Schedule) : Type 0 where
  pub dependents_size : length s.dependents ≡ length s.states
  pub lacking_size : length s.lacking ≡ length s.states
  pub looks_size : length s.looks ≡ length s.states
  pub request : IsSettled s 0
  pub steps : (i : ℕ) → IsNeeded s i → IsStep s i
  pub looks : (i : ℕ) → CanLook s i → IsNeeded s i × IsUnjudged s i
  pub judged : (i : ℕ) → IsStep s i → (IsUnjudged s i → ⊥) → IsNeeded s i
