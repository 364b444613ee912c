-- How an update ends.
use Rattle.std.specs.Prelude.{◌≡◌, ◌⊎◌, ℕ, ◌+◌, ◌≤◌, Bool, true, false, List, [], length, Some, Result, Ok, Err, MatchResult}
use Rattle.std.specs.List.{Contains}
use Rattle.b2_host.specs.declared.children.ChildEvent.{ChildEvent}
use Rattle.b2_host.specs.declared.children.ChildEvent.TheVariants.{Done}
use Rattle.b2_host.specs.Disks.{Disk}
use Rattle.b2_host.specs.ChildProcesses.{BothTold}
use Rattle.b2_host.specs.Outside.{Outside, Read}
use Rattle.b2_host.specs.Output.{Output, with_written}
use Rattle.b2_host.specs.ReadsAdded.{AddsReads}
use Rattle.b2_plan.specs.declared.step.Step.{Step}
use Rattle.b2_plan.specs.declared.plan.Plan.{Plan}
use Rattle.b2_log.specs.declared.line.LogLine.{LogLine}
use Rattle.b2_runs.specs.Staleness.{Update}
use Rattle.b2_runs.specs.Events.{as_counted}
use Rattle.b2_runs.specs.Soundness.{Distinguishes}
use Rattle.b2_runs.specs.Moments.{Moment}
use Rattle.b2_runs.specs.Reports.{end_lines}
use Rattle.b2_runs.specs.UpdateAnswers as runs
use Rattle.b2_runs.specs.UpdateAnswers.{CountsStay, CausedBy, LeavesNone, LeavesOpen, AnswerTold, WrittenBy, failed_of}
use Rattle.b2_runs.specs.UpdateAnswers.UpdateAnswer.{all_went}
use Rattle.b2_drain.specs.Drains.{Made}
use Rattle.b2_facts.specs.declared.stop.FilesStop.TheVariants as files
use Rattle.b2_facts.specs.Facts.{Knowledge, path_at}
use Rattle.b2_reach.specs.declared.sights.Sights.{Sights}
use Rattle.b2_looks.specs.UnderWay.{IsUnderWay}
use Rattle.b2_endings.specs.declared.ending.Ending.{Ending}
use Rattle.b2_endings.specs.declared.ending.Ending.TheVariants as endings
use Rattle.b2_endings.specs.Writings.{Adds}
use Rattle.b2_endings.specs.Endings.{lists_of, answer_of_ending}
use Rattle.b2_update.specs.declared.run.Run.{Run}
use Rattle.b2_update.specs.declared.stop.UpdateStop.{UpdateStop}
use Rattle.b2_update.specs.declared.stop.UpdateStop.TheVariants as stops
use Rattle.b2_update.specs.declared.update_answer.UpdateAnswer.{UpdateAnswer}
use Rattle.b2_update.specs.declared.update_answer.UpdateAnswer.TheVariants as answers
use Rattle.b2_update.specs.Answers.{answer_of}
use Rattle.b2_update.specs.Stops.{SinkSays}
use Rattle.b2_update.specs.Going.{HasHappened, HasKept}
use Rattle.b2_update.specs.InRun.{IsUpdateHere, HasRun, IsInRun, HasHalted}

-- ---- over every host

-- An update has come to its end: nothing runs, no count has changed, and each step that its answer names as failed counts as one
-- that was done badly. Where all went well none does.
pub record HasCome (plan : Plan) (jobs : ℕ) (entry here : Moment) (answer : UpdateAnswer) : Type 0 where
  pub events : List ChildEvent
  pub short : List ℕ
  pub happened : HasHappened plan jobs entry here events short
  pub idle : here.host.children.running ≡ []
  pub kept : HasKept entry here
  pub counts : CountsStay entry here
  pub caused : CausedBy entry here (answer_of answer)
  pub none_failed : answer_of answer ≡ all_went → (i : ℕ) → Contains (as_counted short events) (Done i false) → ⊥
  pub named_failed : (i : ℕ) → Contains (failed_of (answer_of answer)) i → Contains (as_counted short events) (Done i false)

-- for each wait that failed a child is left, for no wait was tried again
abbrev pub NotTriedAgain : Outside → Outside → Type 0
NotTriedAgain before after = after.failed_waits ≤ before.failed_waits + length after.children.running

-- What an answer says over every host, wherever the update ended.
pub record IsAnswered (plan : Plan) (jobs : ℕ) (entry here : Moment) (answer : UpdateAnswer) : Type 0 where
  pub counts : CausedBy entry here (answer_of answer)
  pub none_left : LeavesNone entry.host here.host
  pub not_again : NotTriedAgain entry.host here.host
  pub kept : HasKept entry here
  pub turns : runs.HasHappened plan.steps jobs entry.host.disk entry.host.children.events here.host.children.events
      (answer_of answer)
  pub left_open : LeavesOpen plan.steps entry.host.children here.host.children

-- the answer of an update that has come to this end, and what is written at it
abbrev pub EndingSays : List Step → ℕ → Ending → Output → Output → Result UpdateAnswer UpdateStop → Type 0
EndingSays steps updated (endings.StepCycle list) before after result = (result ≡ Ok (answers.StepCycle list)) × (after ≡ before)
EndingSays steps updated (endings.Ended lists) before after (Ok answer) =
    (answer_of answer ≡ answer_of_ending (endings.Ended lists))
    × (after ≡ with_written (end_lines steps updated (lists_of lists)) before)
EndingSays steps updated (endings.Ended lists) before after (Err stop) =
    SinkSays {T = Unit {0}} (end_lines steps updated (lists_of lists)) before after (Err stop)

-- The answer of an update that was stopped, and of which each child was waited for, or some wait failed. A wait that failed
-- behind a file that is too big is a fault of the host.
abbrev pub IsStopAnswer : Knowledge → UpdateStop → Bool → UpdateAnswer → Type 0
IsStopAnswer f (stops.Files files.Host) all answer = answer ≡ answers.HostFault
IsStopAnswer f (stops.Files files.OutOfMemory) all answer = answer ≡ answers.OutOfMemory
IsStopAnswer f (stops.Files (files.TooBig number size)) true answer = (answer ≡ answers.OutOfMemory)
    ⊎ ((path : List ℕ) × (path_at f number ≡ Some path) × (answer ≡ answers.TooBig path size))
IsStopAnswer f (stops.Files (files.TooBig number size)) false answer = answer ≡ answers.HostFault
IsStopAnswer f stops.Sink all answer = answer ≡ answers.SinkFault

-- ---- over a host whose files are visible

-- An update has come to its end, is what its answer says, and has written what the answer tells.
pub record HasComeInRun (u : Update) (entry here : Moment) (disk : Disk) (answer : UpdateAnswer) : Type 0 where
  pub events : List ChildEvent
  pub ran : HasRun u entry here events disk.now
  pub first : List LogLine
  pub reads : List Read
  pub reads_are : AddsReads reads entry.host.reads here.host.reads
  pub sights : Sights
  pub under_way : IsUnderWay u events first reads disk sights
  pub told : AnswerTold u events disk.now (answer_of answer)
  pub part : List ℕ
  pub adds : Adds part entry.out.written here.out.written
  pub written : WrittenBy u events disk.now (answer_of answer) part

-- an update that is between two events has come to its end, or has stopped
abbrev pub EndTells : Plan → Made → Moment → Run → Moment → Run → Result UpdateAnswer UpdateStop → Type 0
EndTells plan made before run after later result = BothTold (λ old new. (u : Update) (entry : Moment)
    (events : List ChildEvent) → IsUpdateHere plan made run u → Distinguishes u new.past
    → IsInRun u entry before run old events
    → MatchResult result (λ answer. HasComeInRun u entry after new answer)
    (λ stop. HasHalted u entry after later.sights.facts new stop)) before.host.disk after.host.disk
