use Rattle.std.specs.Prelude.{◌≡◌, ◌⊎◌, ℕ, ◌<◌, Bool, true, false, List, [], length, slice_index_or, count_by}
use Rattle.std.specs.List.{Contains}
use Rattle.b2_sched.specs.declared.state.State.{State}
use Rattle.b2_sched.specs.declared.state.State.TheVariants.{Unjudged, Stale, Running, Settled, Failed}
use Rattle.b2_sched.specs.NumberSets.{Has}
use Rattle.b2_runs.specs.Numbers.{NeededOf, SkippedOf}

-- What a scheduler was told, by the numbers of steps. The number 0 stands for the request, which needs the makers of wanted
-- files; it is no step, and counts as settled.
pub record Schedule : Type 0 where
  pub jobs : ℕ
  pub states : List State
  pub dependents : List (List ℕ)
  pub lacking : List Bool
  pub looks : List Bool

-- a schedule by its parts
abbrev pub shown : ℕ → List State → List (List ℕ) → List Bool → List Bool → Schedule
shown jobs states dependents lacking looks = record { jobs = jobs; states = states; dependents = dependents; lacking = lacking; looks = looks }

abbrev pub state_of : Schedule → ℕ → State
state_of s i = slice_index_or s.states i Settled

abbrev pub IsUnjudged : Schedule → ℕ → Type 0
IsUnjudged s i = state_of s i ≡ Unjudged

abbrev pub IsStale : Schedule → ℕ → Type 0
IsStale s i = state_of s i ≡ Stale

abbrev pub IsRunning : Schedule → ℕ → Type 0
IsRunning s i = state_of s i ≡ Running

abbrev pub IsSettled : Schedule → ℕ → Type 0
IsSettled s i = state_of s i ≡ Settled

abbrev pub IsFailed : Schedule → ℕ → Type 0
IsFailed s i = state_of s i ≡ Failed

-- the number of a step of the plan
pub record IsStep (s : Schedule) (i : ℕ) : Type 0 where
  pub some : 0 < i
  pub within : i < length s.states

-- those that were said to need this step
abbrev pub dependents_of : Schedule → ℕ → List ℕ
dependents_of s i = slice_index_or s.dependents i []

-- step i was said to need step k
abbrev pub Needs : Schedule → ℕ → ℕ → Type 0
Needs s i k = Contains (dependents_of s k) i

-- the step makes a wanted file
abbrev pub IsFirst : Schedule → ℕ → Type 0
IsFirst s i = Needs s 0 i

-- the least set with the makers of wanted files and all that those in it need
abbrev pub IsNeeded : Schedule → ℕ → Type 0
IsNeeded s = NeededOf (IsFirst s) (Needs s)

-- the step was said to lack a source
abbrev pub Lacks : Schedule → ℕ → Type 0
Lacks s i = Has s.lacking i

-- The step can be looked at: it is needed and not judged, and was not looked at yet, or a need of it settled since.
abbrev pub CanLook : Schedule → ℕ → Type 0
CanLook s i = Has s.looks i

abbrev pub is_running : State → Bool
is_running Unjudged = false
is_running Stale = false
is_running Running = true
is_running Settled = false
is_running Failed = false

-- how many steps were started and have not ended
abbrev pub running : Schedule → ℕ
running s = count_by is_running s.states

-- the step is needed, and neither settled nor failed
pub record IsLeft (s : Schedule) (i : ℕ) : Type 0 where
  pub needed : IsNeeded s i
  pub not_settled : IsSettled s i → ⊥
  pub not_failed : IsFailed s i → ⊥

-- something has failed, and that is to end the update
pub record QuitsNow (s : Schedule) (quit : Bool) : Type 0 where
  pub quits : quit ≡ true
  pub failed : ℕ
  pub bad : IsFailed s failed

-- The least set of steps that are left and lack a source, or need a failed or skipped step; all that are left, where the
-- update quits.
abbrev pub IsSkipped : Schedule → Bool → ℕ → Type 0
IsSkipped s quit = SkippedOf (IsLeft s) (Lacks s) (IsFailed s) (Needs s) (QuitsNow s quit)

-- the step is needed, and neither settled, failed nor skipped
pub record IsStuck (s : Schedule) (i : ℕ) : Type 0 where
  pub left : IsLeft s i
  pub not_skipped : IsSkipped s false i → ⊥

-- no needed step is stuck
abbrev pub NoneStuck : Schedule → Type 0
NoneStuck s = (i : ℕ) → IsNeeded s i → IsSettled s i ⊎ IsFailed s i ⊎ IsSkipped s false i

-- something runs, can start or can be looked at
abbrev pub GoesOn : Schedule → Type 0
GoesOn s = ((i : ℕ) × IsRunning s i) ⊎ ((i : ℕ) × IsStale s i) ⊎ ((i : ℕ) × CanLook s i)

-- A needed step that cannot be looked at, lacks nothing and has all its needs settled was judged.
abbrev pub AreJudged : Schedule → Type 0
AreJudged s = (i : ℕ) → IsNeeded s i → (CanLook s i → ⊥) → (Lacks s i → ⊥) → ((k : ℕ) → Needs s i k → IsSettled s k) → IsUnjudged s i → ⊥
