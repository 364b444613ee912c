-- What was written in a call, by its answer. Events are those of the call.
use Rattle.std.specs.Prelude.{◌≡◌, ◌⊎◌, ℕ, List, [], ◌++◌, Some, None}
use Rattle.b2_top.specs.Reports.{echo_lines, refusal_report, fault_report}
use Rattle.b2_top.specs.declared.answer.Answer.{Answer}
use Rattle.b2_top.specs.declared.answer.Answer.TheVariants as answers
use Rattle.b2_top.specs.declared.build_command.BuildCommand.{BuildCommand}
use Rattle.b2_host.specs.Disks.{Disk}
use Rattle.b2_base.specs.Counts.{Rose}
use Rattle.b2_base.specs.Bytes.{IsFrontOf}
use Rattle.b2_host.specs.Output.{Output}
use Rattle.b2_host.specs.declared.children.ChildEvent.{ChildEvent}
use Rattle.b2_refusals.specs.Lines.{usage_line}
use Rattle.b2_refusals.specs.declared.fault.Fault.{Fault}
use Rattle.b2_refusals.specs.declared.fault.Fault.TheVariants as faults
use Rattle.b2_runs.specs.Moments.{Moment}
use Rattle.b2_runs.specs.UpdateAnswers.{UpdateAnswer, SinkFailed, WithLog, WrittenBy}
use Rattle.b2_runs.specs.UpdateAnswers.UpdateAnswer.{all_went, failed as some_failed, step_cycle, too_big, host_fault}
use Rattle.b2_endings.specs.Endings.{lists_of}
use Rattle.b2_drain.specs.Drains.{Made}
use Rattle.b2_command_line.specs.Words.{Word}
use Rattle.b2_top.specs.Askings.{Asking, AsksTestsOf, BeginsLoad}
use Rattle.b2_top.specs.BetweenMoments.{StaysStill, Wrote}
use Rattle.b2_top.specs.Plans.{HasPlanFor, update_for, MeetsPremises}
use Rattle.b2_top.specs.Causes.{HasNoPlanFor}
use Rattle.b2_top.specs.Builds.{MayAnswer}
use Rattle.b2_top.specs.LastLines.{AreLast}

-- ---- parts of a text

-- the part is the whole
abbrev pub IsAllOf : List ℕ → List ℕ → Type 0
IsAllOf part whole = part ≡ whole

-- the part is the whole, or a beginning of it, where the sink failed
abbrev pub IsToldOrCut : Output → Output → List ℕ → List ℕ → Type 0
IsToldOrCut sink sink_after part whole =
    ((part ≡ whole) × (sink_after.faults ≡ sink.faults)) ⊎ (SinkFailed sink sink_after × IsFrontOf part whole)

-- ---- before anything is started

-- The fault is what the files and the free words come to, and this is its report.
pub record IsRefusalReport (asking : Asking) (disk : Disk) (fault : Fault) (written : List ℕ) : Type 0 where
  pub echoes : List Word
  pub cause : HasNoPlanFor asking disk echoes fault
  pub is : written ≡ refusal_report echoes [] fault

-- A command is asked for, and these are lines of ECHO that begin those of the load, and the line of a fault of the host.
pub record IsFaultReport (asking : Asking) (disk : Disk) (written : List ℕ) : Type 0 where
  pub command : BuildCommand
  pub asked : asking.command ≡ Some command
  pub echoes : List Word
  pub begins : BeginsLoad asking.source disk command.words echoes
  pub is : written ≡ fault_report echoes

-- All that may be written before anything is started: the usage line, where no command is asked for; the report of a
-- refusal with its cause; and the lines of ECHO of the plan.
pub data IsEarlyReport (asking : Asking) (disk : Disk) (written : List ℕ) : Type 0 where
  usage : asking.command ≡ None → written ≡ usage_line → IsEarlyReport asking disk written
  refusal : (fault : Fault) → IsRefusalReport asking disk fault written → IsEarlyReport asking disk written
  echoing : (plan : HasPlanFor asking disk) → written ≡ echo_lines plan.echoes → IsEarlyReport asking disk written

-- a beginning of such a report
abbrev pub BeginsEarly : Asking → Disk → List ℕ → Type 0
BeginsEarly asking disk written = (whole : List ℕ) × IsEarlyReport asking disk whole × IsFrontOf written whole

-- what was written where memory ran out: maybe nothing, or a beginning of the report of a fault of the host
pub data BeginsSome (asking : Asking) (disk : Disk) (host host_after : ℕ) (written : List ℕ) : Type 0 where
  nothing : written ≡ [] → BeginsSome asking disk host host_after written
  reporting : BeginsEarly asking disk written → BeginsSome asking disk host host_after written
  faulting : (whole : List ℕ) → Rose host host_after → IsFaultReport asking disk whole → IsFrontOf written whole
      → BeginsSome asking disk host host_after written

-- what was written where the host failed
abbrev pub TellsFault : Asking → Disk → Output → Output → List ℕ → Type 0
TellsFault asking disk sink sink_after written =
    (whole : List ℕ) × IsFaultReport asking disk whole × IsToldOrCut sink sink_after written whole

-- nothing was started, no file has changed, and bytes of which this holds were written
abbrev pub WroteEarly : Moment → Moment → List ChildEvent → (List ℕ → Type 0) → Type 0
WroteEarly before after events Holds =
    StaysStill before.host after.host × (events ≡ []) × Wrote before.out after.out Holds

-- ---- by the answer

module _ (made : Made) (asking : Asking) (before after : Moment) (disk later : Disk) (events : List ChildEvent) where
  -- There is a plan, and its update ended so. Where its premises are met, the lines of ECHO were written, those that
  -- the update writes, and of the last lines a part of which this holds. The last lines are the verdicts of the tests that
  -- the plan asks for, or the line of a refusal.
  pub record WroteUpdate (ended : UpdateAnswer) (Holds : List ℕ → List ℕ → Type 0) : Type 0 where
    pub plan : HasPlanFor asking disk
    pub tests : List (List ℕ × ℕ)
    pub asks : AsksTestsOf asking.source disk plan.command.words plan.planned tests
    pub last : List ℕ
    pub are_last : AreLast plan.planned.steps tests ended last
    pub wrote : WithLog disk.now (λ log. MeetsPremises (update_for made plan log) disk later
        → Wrote before.out after.out (λ written. (lines : List ℕ) × (part : List ℕ)
        × WrittenBy (update_for made plan log) events later.now ended lines
        × Holds part last × (written ≡ echo_lines plan.echoes ++ lines ++ part))) ended

  -- an update ended so that the call may have this answer, and its last lines were cut
  abbrev pub WroteUpTo : Answer → Type 0
  WroteUpTo result = (ended : UpdateAnswer) × (wrote : WroteUpdate ended IsFrontOf) × MayAnswer wrote.plan ended result

  -- the report of a refusal
  abbrev pub RefusalTold : Fault → Type 0
  RefusalTold (faults.Plan why) = WroteEarly before after events (IsRefusalReport asking disk (faults.Plan why))
  RefusalTold (faults.Jam fault) = WroteEarly before after events (IsRefusalReport asking disk (faults.Jam fault))
  RefusalTold (faults.StepCycle list) = WroteUpdate (step_cycle list) IsAllOf
  RefusalTold (faults.TooBig path size) = WroteUpdate (too_big path size) IsAllOf

  -- what an answer says of the bytes that were written
  abbrev pub ReportedBy : Answer → Type 0
  ReportedBy answers.Ok = WroteUpdate all_went IsAllOf
  ReportedBy (answers.Failed lists) = WroteUpdate (some_failed (lists_of lists)) IsAllOf
  ReportedBy (answers.Refused fault) = RefusalTold fault
  ReportedBy answers.Usage = WroteEarly before after events (λ written. written ≡ usage_line)
  ReportedBy answers.HostFault = WroteEarly before after events (TellsFault asking disk before.out after.out)
      ⊎ WroteUpdate host_fault (IsToldOrCut before.out after.out)
  ReportedBy answers.OutOfMemory =
      WroteEarly before after events (BeginsSome asking disk before.host.faults after.host.faults)
      ⊎ WroteUpTo answers.OutOfMemory
  ReportedBy answers.SinkFault = WroteEarly before after events (BeginsEarly asking disk) ⊎ WroteUpTo answers.SinkFault
