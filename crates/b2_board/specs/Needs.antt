-- What the schedule is told of the needs of a step.
use Rattle.std.specs.Prelude.{◌≡◌, ◌⊎◌, ℕ, ◌+◌, ◌≤◌, Bool, List, length, count_by}
use Rattle.std.specs.List.{Contains}
use Rattle.b2_sched.specs.Schedules.{Schedule, IsSettled, Needs, CanLook}
use Rattle.b2_sched.specs.SchedulerCalls.{is_empty}

-- how often steps may still be looked at, while none is judged: those that can be, and those that none needs yet
abbrev pub itself : Bool → Bool
itself flag = flag

abbrev pub looks_left : Schedule → ℕ
looks_left s = count_by itself s.looks + count_by is_empty s.dependents

-- the lists of a schedule have one length
pub record IsEven (s : Schedule) : Type 0 where
  pub dependents : length s.dependents ≡ length s.states
  pub lacking : length s.lacking ≡ length s.states
  pub looks : length s.looks ≡ length s.states

-- A step was said to need each of these that is not settled, and nothing else was said. What was not needed before can be
-- looked at now.
pub record TellsNeeds (step : ℕ) (on : List ℕ) (before after : Schedule) : Type 0 where
  pub jobs : after.jobs ≡ before.jobs
  pub states : after.states ≡ before.states
  pub lacking : after.lacking ≡ before.lacking
  pub dependents_size : length after.dependents ≡ length before.dependents
  pub looks_size : length after.looks ≡ length before.looks
  pub kept : (i k : ℕ) → Needs before i k → Needs after i k
  pub fresh : (i k : ℕ) → Needs after i k → Needs before i k ⊎ ((i ≡ step) × Contains on k)
  pub told : (k : ℕ) → Contains on k → IsSettled before k ⊎ Needs after step k
  pub looks : (i : ℕ) → CanLook before i → CanLook after i
  pub found : (i k : ℕ) → Needs after i k → ((j : ℕ) × Needs before j k) ⊎ CanLook after k
  pub left : looks_left after ≤ looks_left before
