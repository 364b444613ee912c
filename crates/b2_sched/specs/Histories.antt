use Rattle.std.specs.Prelude.{◌≡◌, ◌⊎◌, ◌↔◌, ℕ, Bool, List, [], ◌∷◌, ⊤}
use Rattle.std.specs.List.{Contains}
use Rattle.b2_plan.specs.declared.step.Step.{Step}
use Rattle.b2_sched.specs.Schedules.{Schedule, IsStep, IsNeeded, IsUnjudged, IsStale, IsRunning, IsSettled, Needs, CanLook, IsFailed}
use Rattle.b2_sched.specs.SchedulerCalls.{IsNew, looked_at, with_need, with_lack, with_stale, with_start, with_failure, Settles}
use Rattle.b2_sched.specs.Keeping.{IsKept, LooksNext}

-- What a call told, or took: that a step is looked at, needs another one, lacks a source, is stale, has settled, is started, has
-- failed.
pub data Call : Type 0 where
  looks : ℕ → Call
  needs : ℕ → ℕ → Call
  lacks : ℕ → Call
  stale : ℕ → Call
  settles : ℕ → Call
  starts : ℕ → Call
  fails : ℕ → Call

-- what a call makes of a schedule, as the calls promise it
abbrev pub Makes : Schedule → Call → Schedule → Type 0
Makes s (looks i) t = LooksNext s i × (t ≡ looked_at s i)
Makes s (needs i k) t = IsNeeded s i × IsStep s k × (IsSettled s k → ⊥) × (t ≡ with_need s i k)
Makes s (lacks i) t = t ≡ with_lack s i
Makes s (stale i) t = IsNeeded s i × IsUnjudged s i × (t ≡ with_stale s i)
Makes s (settles i) t = (IsNeeded s i × IsUnjudged s i ⊎ IsRunning s i) × Settles s i t
Makes s (starts i) t = IsStale s i × (t ≡ with_start s i)
Makes s (fails i) t = IsRunning s i × (t ≡ with_failure s i)

-- a scheduler after these calls, the last of which stands first
pub data After (steps : List Step) (wanted : List (List ℕ)) (jobs : ℕ) : List Call → Schedule → Type 0 where
  new : (s : Schedule) (flags : List Bool) → IsNew steps wanted jobs s → IsKept s flags 0 → After steps wanted jobs [] s
  call : (past : List Call) (s t : Schedule) (one : Call) → After steps wanted jobs past s → Makes s one t → After steps wanted jobs (one ∷ past) t

-- A step is to be looked at: it was not yet, or a need of it settled since.
abbrev pub IsDue : List Call → ℕ → Type 0
IsDue [] i = ⊤
IsDue (looks k ∷ past) i = (i ≡ k → ⊥) × IsDue past i
IsDue (needs k j ∷ past) i = IsDue past i
IsDue (lacks k ∷ past) i = IsDue past i
IsDue (stale k ∷ past) i = IsDue past i
IsDue (settles k ∷ past) i = IsDue past i ⊎ Contains past (needs i k)
IsDue (starts k ∷ past) i = IsDue past i
IsDue (fails k ∷ past) i = IsDue past i

-- Over any list of calls: the steps that can be looked at are those that are needed, not judged, and to be looked at.
abbrev pub LooksByCalls : Type 0
LooksByCalls = (steps : List Step) (wanted : List (List ℕ)) (jobs : ℕ) (past : List Call) (s : Schedule) → After steps wanted jobs past s → (i : ℕ) → CanLook s i ↔ (IsNeeded s i × IsUnjudged s i × IsDue past i)

-- and a step needs another one where that was told
abbrev pub NeedsByCalls : Type 0
NeedsByCalls = (steps : List Step) (wanted : List (List ℕ)) (jobs : ℕ) (past : List Call) (s : Schedule) → After steps wanted jobs past s → (i k : ℕ) → IsStep s i → Needs s i k ↔ Contains past (needs i k)

-- and it is settled, or has failed, where that was told
abbrev pub EndsByCalls : Type 0
EndsByCalls = (steps : List Step) (wanted : List (List ℕ)) (jobs : ℕ) (past : List Call) (s : Schedule) → After steps wanted jobs past s → (i : ℕ) → IsStep s i → (IsSettled s i ↔ Contains past (settles i)) × (IsFailed s i ↔ Contains past (fails i))
