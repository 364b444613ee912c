use Rattle.std.specs.Prelude.{◌≡◌, ◌≢◌, ℕ, ◌<◌, ◌≤◌, Bool, true, false, List, [], length, Option, Some}
use Rattle.std.specs.List.{Contains}
use Rattle.b2_host.specs.declared.children.ChildEvent.{ChildEvent}
use Rattle.b2_host.specs.declared.children.ChildEvent.TheVariants.{Start, Done}
use Rattle.b2_base.specs.Counts.{greatest_count}
use Rattle.b2_host.specs.Disks.{Folder, Disk, Past, IsOneEach, IsConsistent, bytes_at}
use Rattle.b2_host.specs.Outside.{Read, Outside}
use Rattle.b2_plan.specs.declared.step.Step.{Step}
use Rattle.b2_plan.specs.Plans.{Apart, Makes}
use Rattle.b2_host.specs.FileCalls.{log_path}
use Rattle.b2_plan.specs.Sources.{IsGiven}
use Rattle.b2_log.specs.declared.line.ScanLine.{ScanLine}
use Rattle.b2_log.specs.declared.line.LogLine.{LogLine}
use Rattle.b2_log.specs.Finding.{find_scan}
use Rattle.b2_runs.specs.Logs.{RecordsTrue}
use Rattle.b2_runs.specs.LogFiles.{log_limit}
use Rattle.b2_runs.specs.Staleness.{Update, making}
use Rattle.b2_runs.specs.Runs.{Needed, IsRunSoFar}
use Rattle.b2_runs.specs.Outcomes.{IsSettledStep, IsFailed}
use Rattle.b2_runs.specs.Cycles.{IsStepCycle}
use Rattle.b2_runs.specs.FileReads.{IsLogThen}
use Rattle.b2_runs.specs.Soundness.{Distinguishes, IsSound}
use Rattle.b2_runs.specs.Afterwards.{next_update, IsMadeEachTime}
use Rattle.b2_runs.specs.LogCourses.{held_bytes, log_file}
use Rattle.b2_runs.specs.Reports.{Lists, AreLists, StopsAtEnd}
use Rattle.b2_runs.specs.Moments.{Moment}
use Rattle.b2_runs.specs.UpdateAnswers.{UpdateAnswer, UpdateAnswer.all_went, UpdateAnswer.failed, UpdateAnswer.step_cycle, UpdateAnswer.sink_fault, CausedBy, LeavesNone, HasHappened, HasEnded, AnswerTold, HasUpdated}

-- an update may answer that all went well where it has ended, each wanted file is given, each needed step is settled, and none
-- failed
abbrev pub MayAnswerAllWent : Type 0
MayAnswerAllWent = (u : Update) (events : List ChildEvent) (disk : Disk) → Apart u.build.steps u.build.roots → IsSound u events disk → HasEnded u events disk.now → ((path : List ℕ) → Contains u.build.wanted path → IsGiven u.build path)
    → ((i : ℕ) → Needed u events i → IsSettledStep u events i) → ((i : ℕ) → IsFailed events i → ⊥) → AnswerTold u events disk.now all_went

-- an update that answers so does not answer that something lacks
abbrev pub AllWentLacksNothing : Type 0
AllWentLacksNothing = (u : Update) (events : List ChildEvent) (now : Folder) (lists : Lists) → Apart u.build.steps u.build.roots → AnswerTold u events now all_went → AnswerTold u events now (failed lists) → ⊥

-- an update that answers so does not answer that there is a step cycle
abbrev pub AllWentHasNoCycle : Type 0
AllWentHasNoCycle = (u : Update) (events : List ChildEvent) (now : Folder) (list : List ℕ) → AnswerTold u events now all_went → AnswerTold u events now (step_cycle list) → ⊥

-- nor does one that answers that something lacks
abbrev pub FailedHasNoCycle : Type 0
FailedHasNoCycle = (u : Update) (events : List ChildEvent) (now : Folder) (lists : Lists) (list : List ℕ) → AnswerTold u events now (failed lists) → AnswerTold u events now (step_cycle list) → ⊥

-- a run has one set of lists
abbrev pub ListsAreOne : Type 0
ListsAreOne = (u : Update) (events : List ChildEvent) (lists others : Lists) → AreLists u events lists → AreLists u events others → lists ≡ others

-- after an update that answers that all went well, with a log within its limit, the next one starts no step but those that an
-- always-step or a notfile step reaches
abbrev pub AllWentStartsNothing : Type 0
AllWentStartsNothing = (u : Update) (events later : List ChildEvent) (disk : Disk) (quit : Bool) (jobs : ℕ) (i : ℕ) (step : Step) (path : List ℕ) → Apart u.build.steps u.build.roots → IsSound u events disk → (told : AnswerTold u events disk.now all_went)
    → length (held_bytes (log_file disk.now)) ≤ log_limit → IsRunSoFar (next_update u disk.now told.0.log quit jobs) later → Makes u.build.steps i step path → (IsMadeEachTime u.build path → ⊥) → Contains later (Start i) → ⊥

-- where there is a step cycle, the end of a report is not written, nor a part of it
abbrev pub CycleEndsNoReport : Type 0
CycleEndsNoReport = (u : Update) (events : List ChildEvent) (list written : List ℕ) → IsStepCycle u events list → StopsAtEnd u events written → ⊥

-- over every host an update that answers that all went well has had no bad end
abbrev pub AllWentHasNoBadEnd : Type 0
AllWentHasNoBadEnd = (steps : List Step) (jobs : ℕ) (disk : Option Disk) (old new : List ChildEvent) (i : ℕ) → (h : HasHappened steps jobs disk old new all_went) → Contains h.events (Done i false) → ⊥

-- after a fault of the sink the host's count of faults is as at entry, unless a wait failed
abbrev pub SinkFaultIsFirst : Type 0
SinkFaultIsFirst = (before after : Moment) → before.host.failed_waits < greatest_count → CausedBy before after sink_fault → after.host.failed_waits ≡ before.host.failed_waits → after.host.faults ≡ before.host.faults

-- where no wait may fail no child is left
abbrev pub NoneLeftWithoutRisk : Type 0
NoneLeftWithoutRisk = (before after : Outside) → LeavesNone before after
    → before.risks.wait_may_fail ≡ false
    → after.children.running ≡ []

-- nor is one where none failed, unless the count of failed waits can rise no more
abbrev pub NoneLeftWithoutFault : Type 0
NoneLeftWithoutFault = (before after : Outside) → LeavesNone before after
    → before.failed_waits < greatest_count → after.failed_waits ≡ before.failed_waits
    → after.children.running ≡ []

-- wherever an update ends, each output stands that a step owes which was done well
abbrev pub DoneWellStands : Type 0
DoneWellStands = (u : Update) (answer : UpdateAnswer) (old new : Outside) (before after : Disk) (i : ℕ) (step : Step) (path : List ℕ) → Apart u.build.steps u.build.roots → (h : HasUpdated u answer old new before after)
    → Makes u.build.steps i step path → step.notfile ≡ false → Contains h.events (Done i true) → (bytes : List ℕ) × (bytes_at after.now path ≡ Some bytes)

-- judged by stamps, an update reads no file whose scan line the log had then
abbrev pub UpdateReadsOnce : Type 0
UpdateReadsOnce = (u : Update) (answer : UpdateAnswer) (old new : Outside) (before after : Disk) (read : Read) (stamp : ℕ) (log : List LogLine) (s : ScanLine) → u.by_digest ≡ false → IsOneEach after.past → (h : HasUpdated u answer old new before after)
    → Contains h.reads read → read.path ≢ log_path → read.stamp ≡ Some stamp → IsLogThen after.past read.log log → find_scan read.path stamp log ≡ Some s → ⊥

-- wherever an update ends, whatever it answers, the disk is sound to its events
abbrev pub SoundAtExit : Type 0
SoundAtExit = (u : Update) (answer : UpdateAnswer) (old new : Outside) (before after : Disk) → IsConsistent before → IsConsistent after → ((past : Past) → Contains before.past past → Contains after.past past)
    → (u.all ≡ false → RecordsTrue (making u) before.past u.log) → ((path : List ℕ) → u.build.folder path ≡ before.now path) → Distinguishes u after.past → (h : HasUpdated u answer old new before after) → IsSound u h.events after
