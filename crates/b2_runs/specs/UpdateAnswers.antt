use Rattle.std.specs.Prelude.{◌≡◌, ◌≢◌, ℕ, ◌+◌, ◌≤◌, true, false, List, [], ◌∷◌, ◌++◌, length, Option, Some, ◌⊎◌, ⊤, IfSome}
use Rattle.std.specs.List.{Contains}
use Rattle.b2_host.specs.declared.children.ChildEvent.{ChildEvent}
use Rattle.b2_host.specs.declared.children.ChildEvent.TheVariants.{Done}
use Rattle.b2_host.specs.Disks.{File, Folder, Disk}
use Rattle.b2_host.specs.ChildProcesses.{Given, Child, Family}
use Rattle.b2_host.specs.Outside.{Read, Outside}
use Rattle.b2_host.specs.Output.{Output}
use Rattle.b2_base.specs.Counts.{Rose, greatest_count}
use Rattle.b2_plan.specs.declared.step.Step.{Step}
use Rattle.b2_plan.specs.Plans.{step_at, Makes}
use Rattle.b2_plan.specs.Closures.{Value}
use Rattle.b2_plan.specs.Cleans.{Clean}
use Rattle.b2_log.specs.declared.line.LogLine.{LogLine}
use Rattle.b2_runs.specs.LogFiles.{log_limit, IsLogIn}
use Rattle.b2_runs.specs.Staleness.{Update}
use Rattle.b2_runs.specs.Events.{AreInOrder, as_counted, AreShort, ShortTold}
use Rattle.b2_runs.specs.Runs.{IsRun, IsBegun, AreGivenClosures}
use Rattle.b2_runs.specs.Outcomes.{NoneStuck, AllWent, HasCleanBytes, IsCleanBuild, LeavesNothing, OnlyOutputsChange}
use Rattle.b2_runs.specs.Cycles.{IsStepCycle}
use Rattle.b2_runs.specs.Soundness.{AreAtWork, Holds}
use Rattle.b2_runs.specs.PlanChildren.{AreOfOpenSteps}
use Rattle.b2_runs.specs.Afterwards.{IsNoted}
use Rattle.b2_runs.specs.FileReads.{IsTooBig, ReadsOnce, ReadsLeaveLines}
use Rattle.b2_runs.specs.LogCourses.{held_bytes, log_file, IsLogWhole, IsLogCut}
use Rattle.b2_runs.specs.Reports.{Lists, no_lists, AreLists, event_lines, report, cycle_line, too_big_line, host_fault_line, TellsStarts, StopsAtEvent, StopsAtEnd}
use Rattle.b2_runs.specs.Moments.{Moment}

-- How an update ends, and what its answer says.
pub data UpdateAnswer : Type 0 where
  all_went : UpdateAnswer
  failed : Lists → UpdateAnswer
  step_cycle : List ℕ → UpdateAnswer
  too_big : List ℕ → ℕ → UpdateAnswer
  host_fault : UpdateAnswer
  sink_fault : UpdateAnswer
  out_of_memory : UpdateAnswer

-- ---- the counts of faults

-- no count of faults has changed, that of failed waits neither
pub record CountsStay (before after : Moment) : Type 0 where
  pub host : after.host.faults ≡ before.host.faults
  pub waits : after.host.failed_waits ≡ before.host.failed_waits
  pub sink : after.out.faults ≡ before.out.faults

-- A call of the host failed, where one may: the count of faults rose.
pub record CallFailed (before after : Outside) : Type 0 where
  pub may : before.risks.may_fail ≡ true
  pub faults : Rose before.faults after.faults

-- A write to the sink failed, where one may: the count of faults rose.
pub record SinkFailed (before after : Output) : Type 0 where
  pub may : before.may_fail ≡ true
  pub faults : Rose before.faults after.faults

-- A wait for a child failed, where one may: both counts of the host rose.
pub record WaitFailed (before after : Outside) : Type 0 where
  pub may : before.risks.wait_may_fail ≡ true
  pub faults : Rose before.faults after.faults
  pub waits : Rose before.failed_waits after.failed_waits

-- what the host's counts may do after a fault that is not the host's: they stay, or a wait for a child that ran failed
abbrev pub IsQuietHost : Outside → Outside → Type 0
IsQuietHost before after = ((after.faults ≡ before.faults) × (after.failed_waits ≡ before.failed_waits)) ⊎ WaitFailed before after

-- How the counts of faults stand to an answer. An answer that is no fault comes only where they stay. A fault comes only where
-- one may, its count rose, and the other's is as at entry, but for waits that failed beside a fault of the sink: which of the two
-- came first is not told. Where memory ran out, the sink's count stays, and the host's may have risen by waits that failed.
abbrev pub CausedBy : Moment → Moment → UpdateAnswer → Type 0
CausedBy before after all_went = CountsStay before after
CausedBy before after (failed lists) = CountsStay before after
CausedBy before after (step_cycle list) = CountsStay before after
CausedBy before after (too_big path size) = CountsStay before after
CausedBy before after host_fault = CallFailed before.host after.host × (after.out.faults ≡ before.out.faults)
CausedBy before after sink_fault = SinkFailed before.out after.out × IsQuietHost before.host after.host
CausedBy before after out_of_memory = (after.out.faults ≡ before.out.faults) × IsQuietHost before.host after.host

-- for each child that is left a wait failed, unless the count of failed waits can rise no more
abbrev pub WaitedForEach : Outside → Outside → Type 0
WaitedForEach before after = (length after.children.running + before.failed_waits ≤ after.failed_waits) ⊎ (greatest_count ≤ after.failed_waits)

-- no child is left, but for one for each wait that failed
abbrev pub LeavesNone : Outside → Outside → Type 0
LeavesNone before after = (after.children.running ≡ []) ⊎ (WaitFailed before after × WaitedForEach before after)

-- ---- over every host

-- What runs after an update, wherever it ended and also where a wait failed: the children of the steps that it left open, each
-- once. Each writes its step's outputs.
pub record LeavesOpen (steps : List Step) (old new : Family) : Type 0 where
  pub events : List ChildEvent
  pub are : new.events ≡ old.events ++ events
  pub of_open : AreOfOpenSteps events new.running
  pub planned : (child : Child) → Contains new.running child → (step : Step) × (step_at steps child.step ≡ Some step) × (child.outs ≡ step.outs)

-- the steps that an answer names as failed
abbrev pub failed_of : UpdateAnswer → List ℕ
failed_of all_went = []
failed_of (failed lists) = lists.failed
failed_of (step_cycle list) = []
failed_of (too_big path size) = []
failed_of host_fault = []
failed_of sink_fault = []
failed_of out_of_memory = []

-- What happened is in order, with so many jobs. Some steps may have left an output out, none where the files are visible.
-- Where the answer is that all went well no step did so, and none was done badly; each that it names as failed did, or was.
pub record HasHappened (steps : List Step) (jobs : ℕ) (disk : Option Disk) (old new : List ChildEvent) (answer : UpdateAnswer) : Type 0 where
  pub events : List ChildEvent
  pub are : new ≡ old ++ events
  pub in_order : AreInOrder steps jobs events
  pub short : List ℕ
  pub short_are : AreShort steps events short
  pub short_told : ShortTold disk short
  pub none_failed : answer ≡ all_went → (i : ℕ) → Contains (as_counted short events) (Done i false) → ⊥
  pub named_failed : (i : ℕ) → Contains (failed_of answer) i → Contains (as_counted short events) (Done i false)

-- ---- where the files are visible

-- something failed, was skipped or is missing
abbrev pub SomethingLacks : Lists → Type 0
SomethingLacks lists = (lists.failed ≢ []) ⊎ (lists.skipped ≢ []) ⊎ (lists.missing ≢ [])

-- A run has ended: what is settled has the bytes of the clean build, nothing of a failed step is left, the log's file is what
-- the events call for, and within its limit its last line on each step is what was done with it.
pub record HasEnded (u : Update) (events : List ChildEvent) (now : List ℕ → Option File) : Type 0 where
  pub run : IsRun u events
  pub clean : HasCleanBytes u events now
  pub log : List LogLine
  pub is_log : IsLogIn now log
  pub leaves : LeavesNothing u events now log
  pub whole : IsLogWhole u events now
  pub noted : length (held_bytes (log_file now)) ≤ log_limit → IsNoted u events now log

-- what an answer says of the run
abbrev pub AnswerTold : Update → List ChildEvent → Folder → UpdateAnswer → Type 0
AnswerTold u events now all_went = HasEnded u events now × AllWent u events × IsCleanBuild u.build now
AnswerTold u events now (failed lists) = HasEnded u events now × NoneStuck u events × AreLists u events lists × SomethingLacks lists
AnswerTold u events now (step_cycle list) = HasEnded u events now × IsStepCycle u events list
AnswerTold u events now (too_big path size) = IsTooBig u events now path size
AnswerTold u events now host_fault = ⊤
AnswerTold u events now sink_fault = ⊤
AnswerTold u events now out_of_memory = ⊤

-- All that an update has done between two moments at which the files are visible. The events, each start with what it was
-- given, are the beginning of a run, and those of its children that still run are at work. Nothing but the log and outputs of
-- started steps has changed, and what was done well stands, so that nothing of it was removed. Each read was called for, and
-- left its scan line, if it owed one, before the next. The log's file is one that an update may leave that was cut off, and its
-- last lines are on what was done in a run so far that holds each start.
pub record HasUpdated (u : Update) (answer : UpdateAnswer) (old new : Outside) (before after : Disk) : Type 0 where
  pub events : List ChildEvent
  pub events_are : new.children.events ≡ old.children.events ++ events
  pub given : List Given
  pub given_are : IfSome old.children.given (λ list. new.children.given ≡ Some (list ++ given))
  pub begun : IsBegun u events
  pub given_closure : AreGivenClosures u events given
  pub at_work : AreAtWork u events new.children.running
  pub changed : OnlyOutputsChange u events before.now after.now
  pub done_well : (i : ℕ) (step : Step) (path : List ℕ) → Makes u.build.steps i step path → Contains events (Done i true) → (value : Value) × Clean u.build path value × Holds after.now path value
  pub reads : List Read
  pub reads_are : IfSome old.reads (λ list. new.reads ≡ Some (list ++ reads))
  pub once : ReadsOnce u events after.past reads
  pub leave_lines : ReadsLeaveLines u after.past reads
  pub cut : IsLogCut u events after.now
  pub noted : (log : List LogLine) → IsLogIn after.now log → length (held_bytes (log_file after.now)) ≤ log_limit → (events ≡ []) ⊎ ((b : IsBegun u events) × IsNoted u b.front after.now log)
  pub told : AnswerTold u events after.now answer

-- What is said of the log at entry: where the update has come to an end, of the lines that it was read as; where a fault cut it
-- off, of every list of lines that it may be read as.
abbrev pub WithLog : Folder → (List LogLine → Type 0) → UpdateAnswer → Type 0
WithLog now P all_went = (log : List LogLine) × IsLogIn now log × P log
WithLog now P (failed lists) = (log : List LogLine) × IsLogIn now log × P log
WithLog now P (step_cycle list) = (log : List LogLine) × IsLogIn now log × P log
WithLog now P (too_big path size) = (log : List LogLine) × IsLogIn now log × P log
WithLog now P host_fault = (log : List LogLine) → IsLogIn now log → P log
WithLog now P sink_fault = (log : List LogLine) → IsLogIn now log → P log
WithLog now P out_of_memory = (log : List LogLine) → IsLogIn now log → P log

-- ---- the bytes

-- Where a fault of the sink stops the writing it stops the log too: what the log's file holds is called for by the events up to
-- the one at whose line the writing stopped.
abbrev pub StopsWithLog : Update → List ChildEvent → Folder → List ℕ → Type 0
StopsWithLog u events now written = ((stop : StopsAtEvent u.build.steps events written) × IsLogCut u (stop.front ++ stop.event ∷ []) now) ⊎ StopsAtEnd u events written

-- what an answer says of the bytes that the update wrote, and of its log where these stop; the line of a refusal comes after them
abbrev pub WrittenBy : Update → List ChildEvent → Folder → UpdateAnswer → List ℕ → Type 0
WrittenBy u events now all_went written = written ≡ report u.build.steps events no_lists
WrittenBy u events now (failed lists) written = written ≡ report u.build.steps events lists
WrittenBy u events now (step_cycle list) written = written ≡ event_lines u.build.steps events
WrittenBy u events now (too_big path size) written = TellsStarts u.build.steps events written
WrittenBy u events now host_fault written = TellsStarts u.build.steps events written
WrittenBy u events now sink_fault written = StopsWithLog u events now written
WrittenBy u events now out_of_memory written = TellsStarts u.build.steps events written ⊎ StopsWithLog u events now written

-- the line of a refusal, which comes last, where there is one
abbrev pub refusal_line : List Step → UpdateAnswer → List ℕ
refusal_line steps all_went = []
refusal_line steps (failed lists) = []
refusal_line steps (step_cycle list) = cycle_line steps list
refusal_line steps (too_big path size) = too_big_line path size
refusal_line steps host_fault = host_fault_line
refusal_line steps sink_fault = []
refusal_line steps out_of_memory = []
