-- What a call of the look command promises, from the moment of its start to that of its answer. `ShownTold`
-- and `ReportTold` speak of visible files and of a sink that tells what was written, `CompleteTold` of visible files.
use Rattle.std.specs.Prelude.{◌≡◌, ℕ, List, [], Some, None, Ok, IfSome, ◌⊎◌, ⊤}
use Rattle.b2_host.specs.Disks.{Disk}
use Rattle.b2_base.specs.Counts.{Rose}
use Rattle.b2_base.specs.Bytes.{IsFrontOf}
use Rattle.b2_host.specs.Outside.{Outside}
use Rattle.b2_host.specs.Output.{Output, with_written}
use Rattle.b2_host.specs.OutputLaws.{OutKeeps}
use Rattle.b2_command_line.specs.Words.{Word}
use Rattle.b2_generate.specs.Planning.{Planned}
use Rattle.b2_prepare.specs.Meaning.{BeginLoad, Means}
use Rattle.b2_runs.specs.Moments.{Moment}
use Rattle.b2_runs.specs.UpdateAnswers.{SinkFailed}
use Rattle.b2_refusals.specs.declared.fault.Fault.{Fault}
use Rattle.b2_refusals.specs.declared.fault.Fault.TheVariants as faults
use Rattle.b2_refusals.specs.Lines.{usage_line}
use Rattle.b2_top.specs.Askings.{IsProjectRefusal}
use Rattle.b2_top.specs.declared.answer.Answer.{Answer}
use Rattle.b2_top.specs.declared.answer.Answer.TheVariants as answers
use Rattle.b2_top.specs.Endings.{IsOrCutShort, IsUsageOrCutShort, IfRefused}
use Rattle.b2_top.specs.RefusalCauses.{HasCause, IsPatternRefused}
use Rattle.b2_top.specs.Reports.{refusal_report, fault_report}
use Rattle.b2_top.specs.BetweenMoments.{CountsStay, HostFailedBeforeReport, WrittenTold}
use Rattle.b2_top.specs.declared.look.LookRequest.{LookRequest}
use Rattle.b2_top.specs.Looks.{look_of, look_report}

-- ---- the counts of faults

-- How the counts stand to an answer. Ok, Refused and Usage come only where they are as at entry. HostFault comes only where the
-- host failed, and no write did before its report began. SinkFault comes only where a write failed, and with it the host's count is
-- as at entry.
abbrev pub CountsTold : Moment → Moment → Answer → Type 0
CountsTold before after answers.Ok = CountsStay before after
CountsTold before after (answers.Failed lists) = CountsStay before after
CountsTold before after (answers.Refused fault) = CountsStay before after
CountsTold before after answers.Usage = CountsStay before after
CountsTold before after answers.HostFault = HostFailedBeforeReport before after
CountsTold before after answers.OutOfMemory = after.out.faults ≡ before.out.faults
CountsTold before after answers.SinkFault = SinkFailed before.out after.out × (after.host.faults ≡ before.host.faults)

-- ---- what was written

-- The words are a look, and the files and the free words come to a plan.
pub record HasPlan (words : List Word) (disk : Disk) : Type 0 where
  pub look : LookRequest
  pub echoes : List Word
  pub planned : Planned
  pub asked : look_of words ≡ Some look
  pub means : Means disk None look.words echoes (Ok planned)

-- There is a plan, and what was asked for of it was written.
pub record IsShown (words : List Word) (disk : Disk) (written : List ℕ) : Type 0 where
  pub plan : HasPlan words disk
  pub report : written ≡ look_report plan.echoes plan.look.view plan.planned

-- The words are a look, and the files and the free words come to this fault, after these lines of ECHO.
pub record HasNoPlan (words : List Word) (disk : Disk) (echoes : List Word) (fault : Fault) : Type 0 where
  pub look : LookRequest
  pub asked : look_of words ≡ Some look
  pub cause : HasCause disk look.words echoes fault

-- There is no plan for this cause, and its line was written.
pub record IsRefused (words : List Word) (disk : Disk) (fault : Fault) (written : List ℕ) : Type 0 where
  pub echoes : List Word
  pub cause : HasNoPlan words disk echoes fault
  pub report : written ≡ refusal_report echoes [] fault

-- The words are a look, and lines of ECHO that begin those of the load, and the line of a fault of the host were written; or a
-- beginning of this, where the sink failed too.
pub record HasHostFault (words : List Word) (disk : Disk) (sink sink_after : Output) (written : List ℕ) : Type 0 where
  pub look : LookRequest
  pub echoes : List Word
  pub asked : look_of words ≡ Some look
  pub begins : BeginLoad disk look.words echoes
  pub ended : ((written ≡ fault_report echoes) × (sink_after.faults ≡ sink.faults)) ⊎ (SinkFailed sink sink_after × IsFrontOf written (fault_report echoes))

-- A beginning was written: of the usage line, where the words are no look, of a look at a plan, or of a refusal with its cause.
pub data BeginsReport (words : List Word) (disk : Disk) (written : List ℕ) : Type 0 where
  usage : look_of words ≡ None → IsFrontOf written usage_line → BeginsReport words disk written
  shown : (whole : List ℕ) → IsShown words disk whole → IsFrontOf written whole → BeginsReport words disk written
  refused : (fault : Fault) (whole : List ℕ) → IsRefused words disk fault whole → IsFrontOf written whole → BeginsReport words disk written

-- A beginning was written where memory ran out: maybe nothing, or a beginning of the line of a fault of the host.
pub data BeginsSome (words : List Word) (disk : Disk) (host host_after : ℕ) (written : List ℕ) : Type 0 where
  nothing : written ≡ [] → BeginsSome words disk host host_after written
  report : BeginsReport words disk written → BeginsSome words disk host host_after written
  host_fault : (look : LookRequest) (echoes : List Word) → look_of words ≡ Some look → BeginLoad disk look.words echoes → Rose host host_after
      → IsFrontOf written (fault_report echoes) → BeginsSome words disk host host_after written

-- what an answer says of the bytes that were written
abbrev pub ReportedBy : List Word → Moment → Moment → Answer → Disk → List ℕ → Type 0
ReportedBy words before after answers.Ok disk written = IsShown words disk written
ReportedBy words before after (answers.Failed lists) disk written = ⊥
ReportedBy words before after (answers.Refused fault) disk written = IsRefused words disk fault written
ReportedBy words before after answers.Usage disk written = written ≡ usage_line
ReportedBy words before after answers.HostFault disk written = HasHostFault words disk before.out after.out written
ReportedBy words before after answers.OutOfMemory disk written = BeginsSome words disk before.host.faults after.host.faults written
ReportedBy words before after answers.SinkFault disk written = BeginsReport words disk written

-- what was written is the report
abbrev pub ReportTold : List Word → Moment → Moment → Answer → Type 0
ReportTold words before after result = WrittenTold before after (ReportedBy words before after result)

-- after Ok exactly the lines of ECHO, and the table or the steps of the plan, were written
abbrev pub ShownTold : List Word → Moment → Moment → Answer → Type 0
ShownTold words before after result = result ≡ answers.Ok → WrittenTold before after (IsShown words)

-- with the answer Usage the usage line was written, and nothing else
abbrev pub UsageTold : Moment → Moment → Answer → Type 0
UsageTold before after result = result ≡ answers.Usage → after.out ≡ with_written usage_line before.out

-- ---- causes

-- what the words and the files are to an answer: with Ok there is a plan, with a refusal none, for this cause
abbrev pub CausedBy : List Word → Disk → Answer → Type 0
CausedBy words disk answers.Ok = HasPlan words disk
CausedBy words disk (answers.Failed lists) = ⊥
CausedBy words disk (answers.Refused fault) = (echoes : List Word) × HasNoPlan words disk echoes fault
CausedBy words disk answers.Usage = look_of words ≡ None
CausedBy words disk answers.HostFault = ⊤
CausedBy words disk answers.OutOfMemory = ⊤
CausedBy words disk answers.SinkFault = ⊤

-- the cause of an answer, whatever the output tells
abbrev pub CauseTold : List Word → Outside → Answer → Type 0
CauseTold words before result = IfSome before.disk (λ disk. CausedBy words disk result)

-- ---- answers

-- the fault is one of the load, the request or generation
abbrev pub IsOfPlanning : Fault → Type 0
IsOfPlanning (faults.Plan why) = ⊤
IsOfPlanning (faults.Jam fault) = ⊥
IsOfPlanning (faults.StepCycle list) = ⊥
IsOfPlanning (faults.TooBig path size) = ⊥

-- an answer that a look may have
abbrev pub IsOfLook : Answer → Type 0
IsOfLook answers.Ok = ⊤
IsOfLook (answers.Failed lists) = ⊥
IsOfLook (answers.Refused fault) = IsOfPlanning fault
IsOfLook answers.Usage = ⊤
IsOfLook answers.HostFault = ⊤
IsOfLook answers.OutOfMemory = ⊤
IsOfLook answers.SinkFault = ⊤

-- Where there is a plan, the answer is Ok, or the call was cut short; or the files and the words come to a pattern that is refused
-- though it reads as one.
abbrev pub CompleteTold : List Word → Outside → Answer → Type 0
CompleteTold words before result =
    IfSome before.disk (λ disk. (plan : HasPlan words disk) → IsOrCutShort result answers.Ok ⊎ IsPatternRefused disk plan.look.words result)

-- All that a call of the look command with these words promises.
pub record IsAnswered (words : List Word) (before after : Moment) (result : Answer) : Type 0 where
  pub shown : ShownTold words before after result
  pub reported : ReportTold words before after result
  pub counts : CountsTold before after result
  pub usage : look_of words ≡ None → IsUsageOrCutShort result
  pub alone : look_of words ≡ None → after.host ≡ before.host
  pub no_usage : result ≡ answers.Usage → look_of words ≡ None
  pub usage_told : UsageTold before after result
  pub whole : IfRefused IsProjectRefusal result
  pub not_failed : IsOfLook result
  pub complete : CompleteTold words before.host result
  pub cause : CauseTold words before.host result
  pub out_keeps : OutKeeps before.out after.out

-- the same of a call with words that ask for this look
abbrev pub Shows : LookRequest → Moment → Moment → Answer → Type 0
Shows look before after result = (words : List Word) → look_of words ≡ Some look → IsAnswered words before after result
