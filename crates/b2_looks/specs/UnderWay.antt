-- What holds at each moment of an update over a host whose files are visible.
use Rattle.std.specs.Prelude.{◌≡◌, ◌⊎◌, ℕ, true, false, List, ◌++◌, Some, ⊤, Result, MatchResult}
use Rattle.std.specs.List.{Contains, AllByRecursion}
use Rattle.b2_host.specs.declared.children.ChildEvent.{ChildEvent}
use Rattle.b2_host.specs.declared.children.ChildEvent.TheVariants.{Start}
use Rattle.b2_host.specs.Disks.{Disk}
use Rattle.b2_host.specs.ChildProcesses.{BothTold}
use Rattle.b2_host.specs.ReadsAdded.{AddsReads}
use Rattle.b2_host.specs.Outside.{Outside, Read}
use Rattle.b2_plan.specs.declared.step.Step.{Step}
use Rattle.b2_plan.specs.declared.plan.Plan.{Plan}
use Rattle.b2_plan.specs.Plans.{step_at, Apart}
use Rattle.b2_plan.specs.Closures.{Value, IsClosure}
use Rattle.b2_log.specs.declared.line.LogLine.{LogLine}
use Rattle.b2_log.specs.Good.{IsGood}
use Rattle.b2_log.specs.Finding.{find_record}
use Rattle.b2_runs.specs.Logs.{RecordsTrue}
use Rattle.b2_runs.specs.Staleness.{Update, making}
use Rattle.b2_runs.specs.Runs.{on_settled, IsRunSoFar}
use Rattle.b2_runs.specs.Outcomes.{IsSettledStep}
use Rattle.b2_runs.specs.Numbers.{IsStaleStep}
use Rattle.b2_runs.specs.Afterwards.{IsNotedStep}
use Rattle.b2_runs.specs.Soundness.{Distinguishes, IsSound, IsLoose}
use Rattle.b2_runs.specs.FileReads.{IsTooBig, ReadsOnce, ReadsLeaveLines, HaveLines}
use Rattle.b2_runs.specs.LogCourses.{BeginsWith, IsLogAfter, log_file, IsLogCut}
use Rattle.b2_sched.specs.Schedules.{IsStale, IsRunning, IsSettled}
use Rattle.b2_facts.specs.declared.stop.FilesStop.{FilesStop}
use Rattle.b2_facts.specs.declared.stop.FilesStop.TheVariants as stops
use Rattle.b2_facts.specs.declared.file_facts.FileFacts.{FileFacts}
use Rattle.b2_facts.specs.Facts.{Knowledge, IsBlank, path_at, file_at}
use Rattle.b2_journal.specs.Notes.{HasLines}
use Rattle.b2_reach.specs.declared.sights.Sights.{Sights}
use Rattle.b2_reach.specs.Sightings.{IsTrueSight, AreLined}
use Rattle.b2_reach.specs.Laws.{IsUpdateOf}
use Rattle.b2_verdicts.specs.declared.step_numbers.StepNumbers.{StepNumbers}
use Rattle.b2_verdicts.specs.Cases.{AreNumbersOf}
use Rattle.b2_looks.specs.declared.looks.Looks.{Looks}
use Rattle.b2_looks.specs.Looks.{ready_at, Follows}

-- nothing is known of an output of a step that runs or failed
abbrev pub LooseAreBlank : List ChildEvent → Knowledge → Type 0
LooseAreBlank events f = (n k : ℕ) (file : FileFacts) → file_at f n ≡ Some file → file.maker ≡ Some k → IsLoose events k
    → IsBlank file

-- An update of a plan is under way, but for what is known of its steps. The events are a run so far, and the disk is
-- sound. The log's lines are those that the events call for, its file has them, and the records that it began with are
-- true unless all is to run. Each read was called for and has left its line. What is known of files is true, and of
-- what they include there are lines. Nothing is known of outputs of steps that run or failed.
pub record IsUnderWay (u : Update) (events : List ChildEvent) (first : List LogLine) (reads : List Read) (disk : Disk)
    (s : Sights) : Type 0 where
  pub apart : Apart u.build.steps u.build.roots
  pub update : IsUpdateOf u.build.steps u.build.roots u
  pub run : IsRunSoFar u events
  pub sound : IsSound u events disk
  pub begins : BeginsWith u first
  pub tells : (outs : List (List ℕ)) → find_record outs first ≡ find_record outs u.log
  pub first_true : u.all ≡ false → RecordsTrue (making u) disk.past first
  pub course : IsLogAfter u disk.now first events s.journal
  pub good : AllByRecursion IsGood s.journal
  pub file : HasLines (log_file u.build.folder) disk.now s.journal
  pub once : ReadsOnce u events disk.past reads
  pub leave : ReadsLeaveLines u disk.past reads
  pub have : HaveLines u events disk.past disk.now s.journal reads
  pub sight : IsTrueSight u disk s
  pub lined : AreLined s.facts s.journal
  pub blank : LooseAreBlank events s.facts
  pub by_digest : u.by_digest ≡ s.by_digest

-- The files of a step are those of its closure on what is settled.
pub record HasClosure (u : Update) (events : List ChildEvent) (f : Knowledge) (i : ℕ) (numbers : StepNumbers)
    : Type 0 where
  pub step : Step
  pub at : step_at u.build.steps i ≡ Some step
  pub members : List (List ℕ × Value)
  pub closure : IsClosure u.build (on_settled u events) step members
  pub named : AreNumbersOf step members f numbers

-- What is known of the steps is so in the run: what is settled, which steps are stale, and the closure of each that is
-- to run or runs. Where judging is by digests, each that settled and was not started has its record.
pub record AreTrueLooks (u : Update) (events : List ChildEvent) (disk : Disk) (s : Sights) (l : Looks) : Type 0 where
  pub settled : (i : ℕ) → IsSettled l.board.sched i → IsSettledStep u events i
  pub stale : (i : ℕ) → IsStale l.board.sched i → IsStaleStep u events i
  pub ready : (i : ℕ) (numbers : StepNumbers) → IsStale l.board.sched i ⊎ IsRunning l.board.sched i
      → ready_at l i ≡ Some numbers → HasClosure u events s.facts i numbers
  pub migrated : u.by_digest ≡ true → (i : ℕ) (step : Step) (members : List (List ℕ × Value))
      → IsSettled l.board.sched i → step_at u.build.steps i ≡ Some step → (Contains events (Start i) → ⊥)
      → IsClosure u.build (on_settled u events) step members → IsNotedStep u disk.now s.journal step members

-- a file that is too big is one
abbrev pub IsStopOf : Update → List ChildEvent → Disk → Knowledge → FilesStop → Type 0
IsStopOf u events disk f stops.Host = ⊤
IsStopOf u events disk f stops.OutOfMemory = ⊤
IsStopOf u events disk f (stops.TooBig number size) = (path : List ℕ) × (path_at f number ≡ Some path)
    × IsTooBig u events disk.now path size

-- What holds where work on files stopped: the disk is sound, the log's file is one that an update may leave that was
-- cut off, and each read was called for and has left its line before the next.
pub record IsHalted (u : Update) (events : List ChildEvent) (reads : List Read) (disk : Disk) (f : Knowledge)
    (stop : FilesStop) : Type 0 where
  pub sound : IsSound u events disk
  pub cut : IsLogCut u events disk.now
  pub once : ReadsOnce u events disk.past reads
  pub leave : ReadsLeaveLines u disk.past reads
  pub too_big : IsStopOf u events disk f stop

-- The update is one of this plan, that judges in this way and runs as many steps at a time.
pub record IsUpdateBy (plan : Plan) (l : Looks) (u : Update) : Type 0 where
  pub steps : u.build.steps ≡ plan.steps
  pub roots : u.build.roots ≡ plan.roots
  pub wanted : u.build.wanted ≡ plan.wanted
  pub all : u.all ≡ l.way.all
  pub by_digest : u.by_digest ≡ l.way.by_digest
  pub jobs : u.jobs ≡ l.board.sched.jobs

-- where an update is under way, it is so after a call, with more reads, or it has stopped
pub record GoesOn {T : Type 0} (u : Update) (events : List ChildEvent) (first : List LogLine) (reads : List Read)
    (old : Outside) (new : Outside) (disk : Disk) (l : Looks) (s : Sights) (result : Result T FilesStop) : Type 0 where
  pub more : List Read
  pub adds : AddsReads more old.reads new.reads
  pub after : MatchResult result
      (λ x. IsUnderWay u events first (reads ++ more) disk s × AreTrueLooks u events disk s l)
      (λ stop. IsHalted u events (reads ++ more) disk s.facts stop)

-- what calls tell that look at files and note lines, over a host whose files are visible
abbrev pub LookTold : {T : Type 0} → Plan → Outside → Looks → Sights → Outside → Looks → Sights → Result T FilesStop → Type 0
LookTold plan old l s new k t result = BothTold (λ before after. (u : Update) (events : List ChildEvent)
    (first : List LogLine) (reads : List Read) → IsUpdateBy plan l u → Distinguishes u after.past → Follows events l
    → IsUnderWay u events first reads before s → AreTrueLooks u events before s l
    → GoesOn u events first reads old new after k t result) old.disk new.disk
