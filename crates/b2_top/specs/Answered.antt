-- What a call of the build command promises, from the moment of its start to that of its answer.
use Rattle.std.specs.Prelude.{◌≡◌, ◌⊎◌, ℕ, ◌≤◌, Bool, true, false, List, [], ◌∷◌, ◌++◌, length, Option, Some, None, ⊤}
use Rattle.std.specs.List.{Contains}
use Rattle.b2_top.specs.Askings.{Asking, build_of, IsPatternRefusedIn, IsWholeFor}
use Rattle.b2_top.specs.Endings.{IsOrCutShort, IsUsageOrCutShort, IfRefused}
use Rattle.b2_top.specs.BetweenMoments.{CountsStay, HostFailedBeforeReport, StaysStill}
use Rattle.b2_top.specs.declared.answer.Answer.{Answer}
use Rattle.b2_top.specs.declared.answer.Answer.TheVariants as answers
use Rattle.b2_top.specs.declared.build_command.BuildCommand.{BuildCommand}
use Rattle.b2_host.specs.ChildProcesses.{BothTold}
use Rattle.b2_host.specs.Disks.{Folder, Disk}
use Rattle.b2_host.specs.Outside.{Outside}
use Rattle.b2_host.specs.Output.{with_written}
use Rattle.b2_host.specs.OutputLaws.{OutKeeps}
use Rattle.b2_host.specs.declared.children.ChildEvent.{ChildEvent}
use Rattle.b2_host.specs.declared.children.ChildEvent.TheVariants.{Start, Done}
use Rattle.b2_plan.specs.declared.step.Step.{Step}
use Rattle.b2_plan.specs.Closures.{Value, IsClosure}
use Rattle.b2_plan.specs.Cleans.{Clean}
use Rattle.b2_plan.specs.Plans.{Makes, step_at}
use Rattle.b2_log.specs.declared.line.LogLine.{LogLine}
use Rattle.b2_refusals.specs.Lines.{usage_line}
use Rattle.b2_refusals.specs.declared.fault.Fault.{Fault}
use Rattle.b2_refusals.specs.declared.fault.Fault.TheVariants as faults
use Rattle.b2_runs.specs.Afterwards.{next_update, IsMadeEachTime, IsFreshStep}
use Rattle.b2_runs.specs.CompleteLaws.{CleanIsDefined}
use Rattle.b2_runs.specs.LogCourses.{held_bytes, log_file}
use Rattle.b2_runs.specs.LogFiles.{log_limit, IsLogIn, IsTrueOn}
use Rattle.b2_runs.specs.Moments.{Moment}
use Rattle.b2_runs.specs.ReadLaws.{NoneLarge}
use Rattle.b2_runs.specs.Runs.{Settled}
use Rattle.b2_runs.specs.Staleness.{Update, IsRecorded}
use Rattle.b2_runs.specs.UpdateAnswers.{SinkFailed, WaitFailed, LeavesOpen, HasHappened}
use Rattle.b2_drain.specs.Drains.{Made}
use Rattle.b2_command_line.specs.Words.{Word}
use Rattle.b2_top.specs.Commands.{build_command}
use Rattle.b2_top.specs.Plans.{HasPlanFor, update_for, MeetsPremises, TellsApartFor, making_by}
use Rattle.b2_top.specs.Builds.{HappenedFor, LeavesCleanFor, run_answer}
use Rattle.b2_top.specs.Reported.{ReportedBy}

-- ---- files and children

-- each wanted file has the bytes of the clean build of the sources at entry
abbrev pub CleanFor : Made → Asking → Outside → Outside → Type 0
CleanFor made asking before after = BothTold (LeavesCleanFor made asking) before.disk after.disk

abbrev pub CleanTold : Made → List Word → Outside → Outside → Type 0
CleanTold made words before after = CleanFor made (build_of words) before after

-- what happened, by the answer
abbrev pub WhatHappened : Made → Asking → Outside → Outside → Answer → Type 0
WhatHappened made asking before after result =
    BothTold (λ disk later. HappenedFor made asking before after disk later result) before.disk after.disk

abbrev pub HappenedTold : Made → List Word → Outside → Outside → Answer → Type 0
HappenedTold made words before after result = WhatHappened made (build_of words) before after result

-- every refusal but that of a step cycle, or of a file that is too big for the update, comes before anything is started
abbrev pub RefusedStill : Fault → Outside → Outside → Type 0
RefusedStill (faults.Plan why) before after = StaysStill before after
RefusedStill (faults.Jam fault) before after = StaysStill before after
RefusedStill (faults.StepCycle list) before after = ⊤
RefusedStill (faults.TooBig path size) before after = ⊤

abbrev pub StartsNone : Answer → Outside → Outside → Type 0
StartsNone answers.Ok before after = ⊤
StartsNone (answers.Failed lists) before after = ⊤
StartsNone (answers.Refused fault) before after = RefusedStill fault before after
StartsNone answers.Usage before after = StaysStill before after
StartsNone answers.HostFault before after = ⊤
StartsNone answers.OutOfMemory before after = ⊤
StartsNone answers.SinkFault before after = ⊤

-- over every host, what happened is in order, with the jobs that are asked for, for some list of steps
abbrev pub TurnsFor : Option BuildCommand → Outside → Outside → Answer → Type 0
TurnsFor asked before after result = (command : BuildCommand) → asked ≡ Some command → (steps : List Step)
    × HasHappened steps command.options.jobs before.disk before.children.events after.children.events (run_answer result)

abbrev pub TurnsTold : List Word → Outside → Outside → Answer → Type 0
TurnsTold words before after result = TurnsFor (build_command words) before after result

-- over every host, what runs afterwards are the children of steps that were left open, of some list of steps
abbrev pub LeftOpenTold : Outside → Outside → Type 0
LeftOpenTold before after = (steps : List Step) × LeavesOpen steps before.children after.children

-- a true log stays true, where digests tell contents apart
abbrev pub TrueLogFor : Made → Option BuildCommand → Outside → Outside → Type 0
TrueLogFor made asked before after =
    BothTold (λ disk later. TellsApartFor asked later.past
    → IsTrueOn (making_by made) disk → IsTrueOn (making_by made) later) before.disk after.disk

abbrev pub TrueLogTold : Made → List Word → Outside → Outside → Type 0
TrueLogTold made words before after = TrueLogFor made (build_command words) before after

-- ---- counts

-- the count of the host's faults stays, or a wait for a child that ran failed
abbrev pub StaysOrWaits : Outside → Outside → Type 0
StaysOrWaits before after = (after.faults ≡ before.faults) ⊎ WaitFailed before after

-- How the counts of faults stand to an answer. Ok, Failed, Refused and Usage come only where they are as at entry.
-- HostFault comes only where the host failed, and no write did before its report began. SinkFault comes only where a
-- write failed, and with it the host's count is as at entry, unless a wait for a child that ran failed.
abbrev pub CountsTold : Moment → Moment → Answer → Type 0
CountsTold before after answers.Ok = CountsStay before after
CountsTold before after (answers.Failed lists) = CountsStay before after
CountsTold before after (answers.Refused fault) = CountsStay before after
CountsTold before after answers.Usage = CountsStay before after
CountsTold before after answers.HostFault = HostFailedBeforeReport before after
CountsTold before after answers.OutOfMemory = after.out.faults ≡ before.out.faults
CountsTold before after answers.SinkFault = SinkFailed before.out after.out × StaysOrWaits before.host after.host

-- with the answer Usage the usage line was written, and nothing else
abbrev pub UsageTold : Moment → Moment → Answer → Type 0
UsageTold before after result = result ≡ answers.Usage → after.out ≡ with_written usage_line before.out

-- ---- completeness

-- What should end well: there is a plan, the premises of its update are met, its clean build is defined, no file is too
-- big, and no child ends badly.
pub record ShouldEndWellFor (made : Made) (asking : Asking) (before after : Outside) (disk later : Disk) : Type 0 where
  pub plan : HasPlanFor asking disk
  pub log : List LogLine
  pub is_log : IsLogIn disk.now log
  pub premises : MeetsPremises (update_for made plan log) disk later
  pub events : List ChildEvent
  pub events_are : after.children.events ≡ before.children.events ++ events
  pub defined : CleanIsDefined (update_for made plan log) events
  pub none_large : NoneLarge (update_for made plan log) events
  pub all_well : (i : ℕ) → Contains events (Done i false) → ⊥

abbrev pub ShouldEndWell : Made → List Word → Outside → Outside → Disk → Disk → Type 0
ShouldEndWell made words before after disk later = ShouldEndWellFor made (build_of words) before after disk later

-- What should end well does, or the call was cut short; or the files and the words come to a pattern that is refused
-- though it reads as one.
abbrev pub CompleteFor : Made → Asking → Outside → Outside → Answer → Type 0
CompleteFor made asking before after result = BothTold (λ disk later.
    (should : ShouldEndWellFor made asking before after disk later)
    → IsOrCutShort result answers.Ok ⊎ IsPatternRefusedIn asking.source disk should.plan.command.words result)
    before.disk after.disk

abbrev pub CompleteTold : Made → List Word → Outside → Outside → Answer → Type 0
CompleteTold made words before after result = CompleteFor made (build_of words) before after result

-- ---- what was written

-- what was written is the report
abbrev pub ReportFor : Made → Asking → Moment → Moment → Answer → Type 0
ReportFor made asking before after result = BothTold (λ disk later. (events : List ChildEvent)
    → after.host.children.events ≡ before.host.children.events ++ events
    → ReportedBy made asking before after disk later events result) before.host.disk after.host.disk

abbrev pub ReportTold : Made → List Word → Moment → Moment → Answer → Type 0
ReportTold made words before after result = ReportFor made (build_of words) before after result

-- ---- the next update

-- This holds of the update of the plan, where its premises are met; of the events of the call; and of the files and the
-- log that it left, where the log is within its limit.
abbrev pub HoldsAfter : Made → Asking → Outside → Outside
    → (Update → List ChildEvent → Folder → List LogLine → Type 0) → Type 0
HoldsAfter made asking before after Holds = BothTold (λ disk later.
    (plan : HasPlanFor asking disk) (first log : List LogLine) (events : List ChildEvent)
    → IsLogIn disk.now first → MeetsPremises (update_for made plan first) disk later
    → after.children.events ≡ before.children.events ++ events
    → IsLogIn later.now log → length (held_bytes (log_file later.now)) ≤ log_limit
    → Holds (update_for made plan first) events later.now log) before.disk after.disk

abbrev pub HoldsAfterwards : Made → List Word → Outside → Outside
    → (Update → List ChildEvent → Folder → List LogLine → Type 0) → Type 0
HoldsAfterwards made words before after Holds = HoldsAfter made (build_of words) before after Holds

-- Judged anew, each step of which an output was settled is fresh, but for those that an always-step or a notfile step
-- reaches.
abbrev pub AreFresh : Update → List ChildEvent → Folder → List LogLine → Type 0
AreFresh u events now log = (quit : Bool) (jobs i : ℕ) (step : Step) (path : List ℕ) → Makes u.build.steps i step path
    → Settled u events path → (IsMadeEachTime u.build path → ⊥) → IsFreshStep (next_update u now log quit jobs) [] step

-- of each step that owes files and was done well before a start, the log has a record that agrees with the files
abbrev pub AreKept : Update → List ChildEvent → Folder → List LogLine → Type 0
AreKept u events now log = (quit : Bool) (jobs k i : ℕ) (front rest : List ChildEvent) (step : Step)
    (members : List (List ℕ × Value)) → events ≡ front ++ Start k ∷ rest → Contains front (Done i true)
    → step_at u.build.steps i ≡ Some step → step.notfile ≡ false → IsClosure u.build (Clean u.build) step members
    → IsRecorded (next_update u now log quit jobs) [] step members

-- the answer is Ok, Failed or a step cycle: the update has come to its end
abbrev pub IsOfCycle : Fault → Type 0
IsOfCycle (faults.Plan why) = ⊥
IsOfCycle (faults.Jam fault) = ⊥
IsOfCycle (faults.StepCycle list) = ⊤
IsOfCycle (faults.TooBig path size) = ⊥

abbrev pub IsOfEnd : Answer → Type 0
IsOfEnd answers.Ok = ⊤
IsOfEnd (answers.Failed lists) = ⊤
IsOfEnd (answers.Refused fault) = IsOfCycle fault
IsOfEnd answers.Usage = ⊥
IsOfEnd answers.HostFault = ⊥
IsOfEnd answers.OutOfMemory = ⊥
IsOfEnd answers.SinkFault = ⊥

-- ---- all together

-- All that a call promises that asks for this.
pub record IsAnsweredFor (made : Made) (asking : Asking) (before after : Moment) (result : Answer) : Type 0 where
  pub clean : result ≡ answers.Ok → CleanFor made asking before.host after.host
  pub happened : WhatHappened made asking before.host after.host result
  pub counts : CountsTold before after result
  pub usage : asking.command ≡ None → IsUsageOrCutShort result
  pub alone : asking.command ≡ None → after.host ≡ before.host
  pub no_usage : result ≡ answers.Usage → asking.command ≡ None
  pub usage_told : UsageTold before after result
  pub starts_none : StartsNone result before.host after.host
  pub whole : IfRefused (λ fault. IsWholeFor fault asking.source) result
  pub complete : CompleteFor made asking before.host after.host result
  pub reported : ReportFor made asking before after result
  pub turns : TurnsFor asking.command before.host after.host result
  pub left_open : LeftOpenTold before.host after.host
  pub true_log : TrueLogFor made asking.command before.host after.host
  pub afterwards : IsOfEnd result → HoldsAfter made asking before.host after.host AreFresh
  pub kept : HoldsAfter made asking before.host after.host AreKept
  pub out_keeps : OutKeeps before.out after.out

-- all that a call of the build command with these words promises
abbrev pub IsAnswered : Made → List Word → Moment → Moment → Answer → Type 0
IsAnswered made words before after result = IsAnsweredFor made (build_of words) before after result
