-- What an update knows of its steps, with the files of those that are to run. All this is said over every host.
use Rattle.std.specs.Prelude.{◌≡◌, ◌⊎◌, ◌↔◌, ℕ, ◌+◌, ◌*◌, Bool, true, false, List, length, Option, Some, None, slice_index_or, slice_set, count_by, Result}
use Rattle.std.specs.List.{Contains}
use Rattle.b2_host.specs.declared.children.ChildEvent.{ChildEvent}
use Rattle.b2_host.specs.declared.children.ChildEvent.TheVariants.{Start, Done}
use Rattle.b2_host.specs.LogChanges.{ChangesOnlyLog}
use Rattle.b2_host.specs.Outside.{Outside}
use Rattle.b2_plan.specs.declared.step.Step.{Step}
use Rattle.b2_plan.specs.declared.plan.Plan.{Plan}
use Rattle.b2_plan.specs.Plans.{step_at}
use Rattle.b2_sched.specs.NumberSets.{Has}
use Rattle.b2_sched.specs.Schedules.{Schedule, state_of, IsUnjudged, IsStale, IsRunning, IsSettled, IsFailed, IsNeeded, running}
use Rattle.b2_runs.specs.Events.{is_start, is_done}
use Rattle.b2_sched.specs.SchedulerCalls.{with_stale, Settles}
use Rattle.b2_sched.specs.Keeping.{is_unjudged}
use Rattle.b2_facts.specs.declared.file_facts.FileFacts.{FileFacts}
use Rattle.b2_facts.specs.Facts.{Knowledge, IsNumber, file_at}
use Rattle.b2_facts.specs.declared.stop.FilesStop.{FilesStop}
use Rattle.b2_facts.specs.Growth.{Learns, IsOutside}
use Rattle.b2_facts.specs.Stops.{StopTold}
use Rattle.b2_reach.specs.declared.sights.Sights.{Sights}
use Rattle.b2_verdicts.specs.declared.step_numbers.StepNumbers.{StepNumbers}
use Rattle.b2_board.specs.Boards.{IsBoard}
use Rattle.b2_board.specs.Needs.{looks_left}
use Rattle.b2_looks.specs.declared.looks.Looks.{Looks}
use Rattle.b2_looks.specs.Numbers.{AreFilesOf}

-- the files of a step that was judged stale
abbrev pub ready_at : Looks → ℕ → Option StepNumbers
ready_at l i = slice_index_or l.ready.items i None

-- The files of a step that is to run, or runs, are at hand: of these members, each of which has a number, and none is
-- made by a step that is not settled.
pub record IsReady (plan : Plan) (f : Knowledge) (l : Looks) (i : ℕ) : Type 0 where
  pub numbers : StepNumbers
  pub kept : ready_at l i ≡ Some numbers
  pub step : Step
  pub at : step_at plan.steps i ≡ Some step
  pub members : List ℕ
  pub numbered : (n : ℕ) → Contains members n → IsNumber f n
  pub settled : (n k : ℕ) (file : FileFacts) → Contains members n → file_at f n ≡ Some file → file.maker ≡ Some k
      → IsSettled l.board.sched k
  pub files : AreFilesOf plan.steps f step members numbers

-- of an output of a step that is not settled it is not known what it includes
abbrev pub UnsettledAreUnread : Knowledge → Schedule → Type 0
UnsettledAreUnread f s = (n k : ℕ) (file : FileFacts) → file_at f n ≡ Some file → file.maker ≡ Some k
    → (IsSettled s k → ⊥) → file.includes ≡ None

-- The file is one that no step is to make, or makes now: it is a source, or an output of a step that is settled, or was
-- not judged.
pub data IsUnstarted (s : Schedule) (file : FileFacts) : Type 0 where
  source : IsOutside file → IsUnstarted s file
  made : (maker : ℕ) → file.maker ≡ Some maker → IsSettled s maker ⊎ IsUnjudged s maker → IsUnstarted s file

-- the file with this number is such a one
pub record IsOfUnstarted (s : Schedule) (f : Knowledge) (n : ℕ) : Type 0 where
  pub file : FileFacts
  pub file_is : file_at f n ≡ Some file
  pub unstarted : IsUnstarted s file

-- What holds of the steps, but perhaps of the one that is being looked at (0 where none is).
pub record AreLooks (plan : Plan) (but : ℕ) (f : Knowledge) (l : Looks) : Type 0 where
  pub board : IsBoard plan but f l.board
  pub ready_size : length l.ready.items ≡ length plan.steps + 1
  pub ran_size : length l.ran.items ≡ length plan.steps + 1
  pub ready : (i : ℕ) → IsStale l.board.sched i ⊎ IsRunning l.board.sched i → IsReady plan f l i
  pub unread : UnsettledAreUnread f l.board.sched

-- As steps are looked at some are judged, and more are needed; nothing else becomes of them.
pub record LooksOn (before after : Looks) : Type 0 where
  pub jobs : after.board.sched.jobs ≡ before.board.sched.jobs
  pub size : length after.board.sched.states ≡ length before.board.sched.states
  pub states : (i : ℕ) → (state_of after.board.sched i ≡ state_of before.board.sched i)
      ⊎ (IsUnjudged before.board.sched i × (IsStale after.board.sched i ⊎ IsSettled after.board.sched i))
  pub needed : (i : ℕ) → IsNeeded before.board.sched i → IsNeeded after.board.sched i
  pub ran : after.ran ≡ before.ran

-- The steps follow the events: those that run were started, those that are unjudged or stale were not, those that
-- failed were done badly, those that were done well are settled, of each that is done it is told, and as many run as
-- are open.
pub record Follows (events : List ChildEvent) (l : Looks) : Type 0 where
  pub started : (i : ℕ) → IsRunning l.board.sched i → Contains events (Start i)
  pub not_started : (i : ℕ) → IsUnjudged l.board.sched i ⊎ IsStale l.board.sched i → Contains events (Start i) → ⊥
  pub settled : (i : ℕ) → IsSettled l.board.sched i → Contains events (Start i) → Contains events (Done i true)
  pub failed : (i : ℕ) → IsFailed l.board.sched i ↔ Contains events (Done i false)
  pub done_well : (i : ℕ) → Contains events (Done i true) → IsSettled l.board.sched i
  pub ran : (i : ℕ) → Has l.ran.items i ↔ ((well : Bool) × Contains events (Done i well))
  pub count : count_by is_start events ≡ count_by is_done events + running l.board.sched

-- ---- a judgement

-- A step was judged fresh: it settled, and nothing else changed.
pub record IsJudgedFresh (number : ℕ) (before after : Looks) : Type 0 where
  pub way : after.way ≡ before.way
  pub ran : after.ran ≡ before.ran
  pub ready : after.ready ≡ before.ready
  pub works : after.board.works ≡ before.board.works
  pub settles : Settles before.board.sched number after.board.sched

-- A step was judged stale, and its files are kept; nothing else changed.
pub record IsJudgedStale (number : ℕ) (numbers : StepNumbers) (before after : Looks) : Type 0 where
  pub way : after.way ≡ before.way
  pub ran : after.ran ≡ before.ran
  pub ready : after.ready.items ≡ slice_set before.ready.items number (Some numbers)
  pub works : after.board.works ≡ before.board.works
  pub stale : after.board.sched ≡ with_stale before.board.sched number

-- a step was judged so, with these files
abbrev pub IsJudged : Bool → ℕ → StepNumbers → Looks → Looks → Type 0
IsJudged true number numbers before after = IsJudgedFresh number before after
IsJudged false number numbers before after = IsJudgedStale number numbers before after

-- ---- a look

-- Files were looked at: nothing changed on the host but the log's file, the reads and the count of faults, which tells
-- whether the host failed. More is known, of these files alone.
pub record LooksAtFiles {T : Type 0} (steps : List Step) (roots : List (List ℕ)) (P : ℕ → Type 0) (s : Sights)
    (x : Outside) (t : Sights) (y : Outside) (result : Result T FilesStop) : Type 0 where
  pub only_log : ChangesOnlyLog x y
  pub faults : StopTold x y result
  pub learns : Learns steps roots P s.facts t.facts
  pub way : t.by_digest ≡ s.by_digest

-- how often steps may still be looked at: of each that is unjudged its judgement lets all be looked at again
abbrev pub looks_ahead : Schedule → ℕ
looks_ahead s = count_by is_unjudged s.states * (2 * length s.states + 1) + looks_left s
