use Rattle.std.specs.Prelude.{◌≡◌, ◌↔◌, ◌⊎◌, ℕ, ◌+◌, ◌≤◌, Bool, true, false, List, [], ◌∷◌, ◌++◌, length, slice_set, Some, if◌then◌else◌}
use Rattle.std.specs.List.{Contains}
use Rattle.b2_plan.specs.declared.step.Step.{Step}
use Rattle.b2_plan.specs.Plans.{maker_of}
use Rattle.b2_sched.specs.declared.state.State.TheVariants.{Stale, Running, Settled, Failed}
use Rattle.b2_runs.specs.Cycles.{IsLowest}
use Rattle.b2_sched.specs.Schedules.{Schedule, IsUnjudged, IsStale, IsStep, Needs, Lacks, CanLook, dependents_of, running}

-- the step makes one of these paths
abbrev pub MakesOneOf : List Step → List (List ℕ) → ℕ → Type 0
MakesOneOf steps wanted i = (path : List ℕ) × Contains wanted path × (maker_of steps path ≡ Some i)

-- A new scheduler: the makers of wanted files are needed and can be looked at, and nothing else was told.
pub record IsNew (steps : List Step) (wanted : List (List ℕ)) (jobs : ℕ) (s : Schedule) : Type 0 where
  pub jobs_are : s.jobs ≡ jobs
  pub size : length s.states ≡ length steps + 1
  pub unjudged : (i : ℕ) → IsStep s i → IsUnjudged s i
  pub needs : (i k : ℕ) → Needs s i k ↔ ((i ≡ 0) × MakesOneOf steps wanted k)
  pub looks : (i : ℕ) → CanLook s i ↔ MakesOneOf steps wanted i
  pub lacks : (i : ℕ) → Lacks s i → ⊥

-- the step was looked at
abbrev pub looked_at : Schedule → ℕ → Schedule
looked_at s i = record s { looks = slice_set s.looks i false }

abbrev pub is_empty : List ℕ → Bool
is_empty [] = true
is_empty (i ∷ more) = false

-- The step was said to need the other one, which can be looked at now if it was not needed before.
abbrev pub with_need : Schedule → ℕ → ℕ → Schedule
with_need s step on = record s {
  dependents = slice_set s.dependents on (dependents_of s on ++ step ∷ []);
  looks = (if is_empty (dependents_of s on) then slice_set s.looks on true else s.looks);
}

-- the step lacks a source
abbrev pub with_lack : Schedule → ℕ → Schedule
with_lack s step = record s { lacking = slice_set s.lacking step true }

-- the step was judged stale, so it is not looked at again
abbrev pub with_stale : Schedule → ℕ → Schedule
with_stale s step = record s { states = slice_set s.states step Stale; looks = slice_set s.looks step false }

-- the step was started
abbrev pub with_start : Schedule → ℕ → Schedule
with_start s step = record s { states = slice_set s.states step Running }

-- the step ended badly
abbrev pub with_failure : Schedule → ℕ → Schedule
with_failure s step = record s { states = slice_set s.states step Failed }

-- The step settled: those that need it and are not judged can be looked at, beside those that could.
pub record Settles (s : Schedule) (step : ℕ) (t : Schedule) : Type 0 where
  pub jobs : t.jobs ≡ s.jobs
  pub states : t.states ≡ slice_set s.states step Settled
  pub dependents : t.dependents ≡ s.dependents
  pub lacking : t.lacking ≡ s.lacking
  pub size : length t.looks ≡ length s.looks
  pub looks : (i : ℕ) → CanLook t i ↔ (IsUnjudged t i × (CanLook s i ⊎ Needs s i step))

-- the lowest step that was judged stale and not started, where there is room for it
pub record StartsNext (s : Schedule) (step : ℕ) : Type 0 where
  pub lowest : IsLowest (IsStale s) step
  pub room : running s + 1 ≤ s.jobs

-- nothing is to be started, or there is no room
abbrev pub StartsNone : Schedule → Type 0
StartsNone s = ((i : ℕ) → IsStale s i → ⊥) ⊎ (s.jobs ≤ running s)
