use Rattle.std.specs.Prelude.{◌≡◌, ◌↔◌, ◌⊎◌, ℕ, ◌+◌, ◌≤◌, true, List, length, count_by}
use Rattle.std.specs.List.{Contains}
use Rattle.b2_host.specs.declared.children.ChildEvent.{ChildEvent}
use Rattle.b2_host.specs.declared.children.ChildEvent.TheVariants.{Start, Done}
use Rattle.b2_plan.specs.Plans.{Apart}
use Rattle.b2_runs.specs.Staleness.{Update}
use Rattle.b2_runs.specs.Events.{is_start, is_done}
use Rattle.b2_runs.specs.Runs.{Needed, CanStart, MayCome, IsRunSoFar}
use Rattle.b2_runs.specs.Outcomes.{IsSettledStep, Skipped}
use Rattle.b2_runs.specs.Outcomes as run
use Rattle.b2_runs.specs.Cycles.{IsStepCycle}
use Rattle.b2_runs.specs.Numbers.{MakesWanted, NeedsStep, LacksSource, IsStaleStep}
use Rattle.b2_runs.specs.Numbers as by_number
use Rattle.b2_sched.specs.Schedules.{Schedule, IsFirst, IsNeeded, IsStale, IsRunning, IsSettled, IsFailed, Needs, Lacks, CanLook, IsLeft, IsSkipped, IsStuck, NoneStuck, AreJudged, running}
use Rattle.b2_sched.specs.SchedulerCalls.{StartsNext, StartsNone}
use Rattle.b2_sched.specs.Ends.{IsCycleOf}
use Rattle.b2_sched.specs.Sound.{IsSound}

-- Where a scheduler was told what a run has, its sets are those of the run.

-- ---- what it was told

-- What it was told is so in the run: which steps make wanted files, what needed steps need and lack, and which of them are
-- settled; and the same steps have failed.
pub record IsToldTrue (u : Update) (events : List ChildEvent) (s : Schedule) : Type 0 where
  pub sound : IsSound s
  pub size : length s.states ≡ length u.build.steps + 1
  pub firsts : (i : ℕ) → IsFirst s i ↔ MakesWanted u i
  pub needs : (i k : ℕ) → IsNeeded s i → Needs s i k → NeedsStep u events i k
  pub lacks : (i : ℕ) → IsNeeded s i → Lacks s i → LacksSource u events i
  pub settled : (i : ℕ) → IsNeeded s i → IsSettled s i → IsSettledStep u events i
  pub failed : (i : ℕ) → IsFailed s i ↔ run.IsFailed events i

-- It was told all that the run has: what needed steps need, unless that is settled, and what they lack while they are left.
pub record IsToldAll (u : Update) (events : List ChildEvent) (s : Schedule) : Type 0 where
  pub needs : (i k : ℕ) → IsNeeded s i → NeedsStep u events i k → Needs s i k ⊎ IsSettled s k
  pub lacks : (i : ℕ) → IsLeft s i → LacksSource u events i → Lacks s i

-- each needed step that is settled in the run is settled
abbrev pub HasSettled : Update → List ChildEvent → Schedule → Type 0
HasSettled u events s = (i : ℕ) → IsNeeded s i → IsSettledStep u events i → IsSettled s i

-- It was told what the run has, and has as settled what is settled there.
pub record IsTold (u : Update) (events : List ChildEvent) (s : Schedule) : Type 0 where
  pub so : IsToldTrue u events s
  pub all : IsToldAll u events s
  pub settled : HasSettled u events s

-- It was told what was judged and started: stale steps are so in the run and were not started, those that run were started,
-- and as many run as are open.
pub record IsToldStarts (u : Update) (events : List ChildEvent) (s : Schedule) : Type 0 where
  pub jobs : s.jobs ≡ u.jobs
  pub stale : (i : ℕ) → IsStale s i → IsStaleStep u events i
  pub not_started : (i : ℕ) → IsStale s i → Contains events (Start i) → ⊥
  pub started : (i : ℕ) → IsRunning s i → Contains events (Start i)
  pub count : count_by is_start events ≡ count_by is_done events + running s

-- nothing is to be looked at or judged
pub record IsAtRest (s : Schedule) : Type 0 where
  pub no_look : (i : ℕ) → CanLook s i → ⊥
  pub judged : AreJudged s

-- ---- what is settled, needed, left and skipped

-- At rest, a step that is settled in the run, done well or fresh, is settled.
abbrev pub SettledJoins : Type 0
SettledJoins = (u : Update) (events : List ChildEvent) (s : Schedule) → Apart u.build.steps u.build.roots → IsRunSoFar u events → IsToldTrue u events s
    → IsToldStarts u events s → IsAtRest s → ((i : ℕ) → Contains events (Done i true) → IsSettled s i) → HasSettled u events s

abbrev pub NeededJoins : Type 0
NeededJoins = (u : Update) (events : List ChildEvent) (s : Schedule) → IsTold u events s → (i : ℕ) → IsNeeded s i ↔ Needed u events i

abbrev pub LeftJoins : Type 0
LeftJoins = (u : Update) (events : List ChildEvent) (s : Schedule) → IsTold u events s → (i : ℕ) → IsLeft s i ↔ run.IsLeft u events i

abbrev pub SkippedJoins : Type 0
SkippedJoins = (u : Update) (events : List ChildEvent) (s : Schedule) → IsTold u events s → (i : ℕ) → IsSkipped s u.quit i ↔ Skipped u events i

-- ---- what is stuck

-- The same steps are stuck, unless the update quits.
abbrev pub StuckJoins : Type 0
StuckJoins = (u : Update) (events : List ChildEvent) (s : Schedule) → IsTold u events s → (by_number.QuitsNow u events → ⊥)
    → (i : ℕ) → IsStuck s i ↔ run.IsStuck u events i

-- Where the scheduler has none stuck, the run has none.
abbrev pub NoneStuckJoins : Type 0
NoneStuckJoins = (u : Update) (events : List ChildEvent) (s : Schedule) → IsTold u events s → NoneStuck s → run.NoneStuck u events

-- Where the update quits, the run has none stuck: all that are left are skipped.
abbrev pub QuitsStuckNone : Type 0
QuitsStuckNone = (u : Update) (events : List ChildEvent) (s : Schedule) → IsTold u events s → by_number.QuitsNow u events → run.NoneStuck u events

-- The cycle is that of the run, unless the update quits.
abbrev pub CycleJoins : Type 0
CycleJoins = (u : Update) (events : List ChildEvent) (s : Schedule) (list : List ℕ) → IsTold u events s → (by_number.QuitsNow u events → ⊥)
    → IsCycleOf (IsStuck s) (Needs s) list → IsStepCycle u events list

-- ---- what can start

-- At rest, a step can start exactly where it was judged stale, there is room, and the update does not quit.
abbrev pub CanStartJoins : Type 0
CanStartJoins = (u : Update) (events : List ChildEvent) (s : Schedule) → Apart u.build.steps u.build.roots → IsRunSoFar u events → IsTold u events s
    → IsToldStarts u events s → IsAtRest s → (i : ℕ) → CanStart u events i ↔ (IsStale s i × (running s + 1 ≤ s.jobs) × (by_number.QuitsNow u events → ⊥))

-- So the step that the scheduler starts next may start in the run, unless the update quits.
abbrev pub NextJoins : Type 0
NextJoins = (u : Update) (events : List ChildEvent) (s : Schedule) → Apart u.build.steps u.build.roots → IsRunSoFar u events → IsTold u events s
    → IsToldStarts u events s → IsAtRest s → (by_number.QuitsNow u events → ⊥) → (i : ℕ) → StartsNext s i → MayCome u events (Start i)

-- Where it starts none, none can start; nor can one where the update quits.
abbrev pub NoneJoins : Type 0
NoneJoins = (u : Update) (events : List ChildEvent) (s : Schedule) → Apart u.build.steps u.build.roots → IsRunSoFar u events → IsTold u events s
    → IsToldStarts u events s → IsAtRest s → StartsNone s ⊎ by_number.QuitsNow u events → (i : ℕ) → CanStart u events i → ⊥
