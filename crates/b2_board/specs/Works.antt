-- The work on one step: what it is known to read, and which of the makers the schedule was told.
use Rattle.std.specs.Prelude.{◌≡◌, ◌⊎◌, ◌↔◌, ℕ, ◌<◌, ◌≤◌, Bool, true, false, List, ◌++◌, drop, length, Some, slice_get, if◌then◌else◌}
use Rattle.std.specs.List.{Contains}
use Rattle.b2_plan.specs.declared.step.Step.{Step}
use Rattle.b2_plan.specs.Plans.{step_at}
use Rattle.b2_sched.specs.Schedules.{Schedule, IsSettled, Needs, Lacks}
use Rattle.b2_sched.specs.SchedulerCalls.{with_lack}
use Rattle.b2_facts.specs.declared.file_facts.FileFacts.{FileFacts}
use Rattle.b2_facts.specs.Facts.{Knowledge, file_at}
use Rattle.b2_reach.specs.Reaches.{IsReachOf, IsAsFar}
use Rattle.b2_board.specs.declared.work.Work.{Work}
use Rattle.b2_board.specs.Needs.{TellsNeeds}

-- the step needs one that is not settled
pub record IsWaiting (s : Schedule) (i : ℕ) : Type 0 where
  pub need : ℕ
  pub needs : Needs s i need
  pub not_settled : IsSettled s need → ⊥

-- one of these files is an output of the step
pub record HasOutputOf (f : Knowledge) (members : List ℕ) (k : ℕ) : Type 0 where
  pub number : ℕ
  pub among : Contains members number
  pub file : FileFacts
  pub file_is : file_at f number ≡ Some file
  pub made : file.maker ≡ Some k

-- the schedule knows of this need: it is settled, or was told and is waited for
abbrev pub IsToldNeed : Schedule → List ℕ → ℕ → ℕ → Type 0
IsToldNeed s waiting i k = IsSettled s k ⊎ (Needs s i k × Contains waiting k)

-- The work is on this step. The makers of the first members were told to the schedule, unless they were settled, and are waited
-- for; those that are waited for make members.
pub record IsWorkOn (steps : List Step) (s : Schedule) (f : Knowledge) (i : ℕ) (w : Work) : Type 0 where
  pub step : Step
  pub at : step_at steps i ≡ Some step
  pub reach : IsReachOf steps (IsSettled s) step f w.reach
  pub within : w.told ≤ length w.reach.members
  pub told : (place n k : ℕ) (file : FileFacts) → place < w.told → slice_get w.reach.members place ≡ Some n
      → file_at f n ≡ Some file → file.maker ≡ Some k → IsToldNeed s w.waiting i k
  pub waiting : (k : ℕ) → Contains w.waiting k → HasOutputOf f w.reach.members k

-- All was done that can be: each member was taken, each maker was told, and so was what lacks.
pub record IsLookedAt (s : Schedule) (f : Knowledge) (i : ℕ) (w : Work) : Type 0 where
  pub as_far : IsAsFar (IsSettled s) f w.reach
  pub told : w.told ≡ length w.reach.members
  pub lacks : w.reach.lacks ≡ true → Lacks s i

-- nothing lacks, and all makers of members are settled
pub record IsClosed (s : Schedule) (f : Knowledge) (w : Work) : Type 0 where
  pub lacks_nothing : w.reach.lacks ≡ false
  pub settled : (k : ℕ) → HasOutputOf f w.reach.members k → IsSettled s k

-- The makers of the members that were not told yet were told to the schedule, and are waited for.
pub record TellsMakers (f : Knowledge) (i : ℕ) (w : Work) (s : Schedule) (v : Work) (t : Schedule) : Type 0 where
  pub reach : v.reach ≡ w.reach
  pub on : List ℕ
  pub makers : (k : ℕ) → Contains on k ↔ HasOutputOf f (drop w.told w.reach.members) k
  pub tells : TellsNeeds i on s t
  pub waiting : v.waiting ≡ w.waiting ++ on
  pub told : v.told ≡ length w.reach.members

-- A step was looked at: the schedule was told which steps it needs, and whether it lacks a file; all was done that can be.
pub record LooksOnce (steps : List Step) (f : Knowledge) (i : ℕ) (s t : Schedule) (v : Work) : Type 0 where
  pub on : List ℕ
  pub makers : (k : ℕ) → Contains on k → HasOutputOf f v.reach.members k
  pub between : Schedule
  pub tells : TellsNeeds i on s between
  pub lacks : t ≡ (if v.reach.lacks then with_lack between i else between)
  pub work : IsWorkOn steps t f i v
  pub looked : IsLookedAt t f i v

-- whether all that the step reads is settled: else it lacks something, or waits
abbrev pub IsClosedTold : Bool → Schedule → Knowledge → ℕ → Work → Type 0
IsClosedTold true s f i w = IsClosed s f w
IsClosedTold false s f i w = Lacks s i ⊎ IsWaiting s i
