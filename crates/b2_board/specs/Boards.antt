-- What an update knows of its steps: a schedule, and the work on each step that was looked at. All this is said over every host.
use Rattle.std.specs.Prelude.{◌≡◌, ◌↔◌, ◌⊎◌, ℕ, ◌+◌, Bool, true, false, List, [], length, Option, Some, None, slice_index_or}
use Rattle.b2_plan.specs.declared.step.Step.{Step}
use Rattle.b2_plan.specs.declared.plan.Plan.{Plan}
use Rattle.b2_sched.specs.Schedules.{Schedule, IsUnjudged, IsSettled, IsStep, Needs, IsFirst, IsNeeded, Lacks, CanLook}
use Rattle.b2_sched.specs.SchedulerCalls.{MakesOneOf}
use Rattle.b2_facts.specs.Facts.{Knowledge}
use Rattle.b2_board.specs.declared.board.Board.{Board}
use Rattle.b2_board.specs.declared.work.Work.{Work}
use Rattle.b2_board.specs.Works.{HasOutputOf, IsWaiting, IsWorkOn, IsLookedAt, IsClosed}

-- the work on a step, where it was begun
abbrev pub work_at : List (Option Work) → ℕ → Option Work
work_at works i = slice_index_or works i None

-- the step was looked at, and all was done that can be
pub record IsSeen (s : Schedule) (f : Knowledge) (works : List (Option Work)) (i : ℕ) : Type 0 where
  pub work : Work
  pub begun : work_at works i ≡ Some work
  pub looked : IsLookedAt s f i work

-- the step was looked at, and all that it reads is settled
pub record IsOver (s : Schedule) (f : Knowledge) (works : List (Option Work)) (i : ℕ) : Type 0 where
  pub work : Work
  pub begun : work_at works i ≡ Some work
  pub looked : IsLookedAt s f i work
  pub closed : IsClosed s f work

-- the step was found to read an output of the other one
pub record HasFound (f : Knowledge) (works : List (Option Work)) (i k : ℕ) : Type 0 where
  pub work : Work
  pub begun : work_at works i ≡ Some work
  pub reads : HasOutputOf f work.reach.members k

-- the step was found to read a file that is missing
pub record HasLack (works : List (Option Work)) (i : ℕ) : Type 0 where
  pub work : Work
  pub begun : work_at works i ≡ Some work
  pub lacks : work.reach.lacks ≡ true

-- What holds of the steps, but perhaps of the one that is being looked at (0 where none is): the schedule was told what the work
-- on each step has found, a needed step that cannot be looked at was seen, and one that is judged has all that it reads settled.
pub record IsBoardOf (steps : List Step) (wanted : List (List ℕ)) (but : ℕ) (f : Knowledge) (s : Schedule)
    (works : List (Option Work)) : Type 0 where
  pub size : length s.states ≡ length steps + 1
  pub dependents_size : length s.dependents ≡ length steps + 1
  pub lacking_size : length s.lacking ≡ length steps + 1
  pub looks_size : length s.looks ≡ length steps + 1
  pub works_size : length works ≡ length steps + 1
  pub request : IsSettled s 0
  pub first : (i : ℕ) → IsFirst s i ↔ MakesOneOf steps wanted i
  pub needs : (i k : ℕ) → Needs s i k → (i ≡ 0) ⊎ (HasFound f works i k × IsNeeded s i)
  pub lacks : (i : ℕ) → Lacks s i → HasLack works i
  pub work : (i : ℕ) (work : Work) → work_at works i ≡ Some work → IsWorkOn steps s f i work
  pub seen : (i : ℕ) → (i ≡ but → ⊥) → IsNeeded s i → (CanLook s i → ⊥) → IsSeen s f works i
  pub waits : (i : ℕ) → (i ≡ but → ⊥) → IsNeeded s i → IsUnjudged s i → (CanLook s i → ⊥) → Lacks s i ⊎ IsWaiting s i
  pub judged : (i : ℕ) → IsStep s i → (IsUnjudged s i → ⊥) → IsNeeded s i × IsOver s f works i

abbrev pub IsBoard : Plan → ℕ → Knowledge → Board → Type 0
IsBoard plan but f b = IsBoardOf plan.steps plan.wanted but f b.sched b.works.items

-- the members of what a step is known to read, none where the work on it was not begun
abbrev pub members_in : Option Work → List ℕ
members_in None = []
members_in (Some work) = work.reach.members

abbrev pub members_of : Board → ℕ → List ℕ
members_of b i = members_in (work_at b.works.items i)

-- what came of a look at a step: all that it reads is settled; or it lacks something, or waits
abbrev pub IsLookOf : Bool → Knowledge → Board → ℕ → Type 0
IsLookOf true f b i = IsOver b.sched f b.works.items i
IsLookOf false f b i = IsSeen b.sched f b.works.items i × (Lacks b.sched i ⊎ IsWaiting b.sched i)

-- As steps are looked at more are needed; what is needed, and each state, stays.
pub record NeedsMore (before after : Schedule) : Type 0 where
  pub jobs : after.jobs ≡ before.jobs
  pub states : after.states ≡ before.states
  pub needed : (i : ℕ) → IsNeeded before i → IsNeeded after i
