-- What an explanation promises, from the moment of its start to that of its answer.
use Rattle.std.specs.Prelude.{◌≡◌, ◌⊎◌, ⊤, ℕ, Bool, false, List, [], ◌++◌, Some, None, Ok, Err, Result}
use Rattle.std.specs.Option.{IfSome}
use Rattle.b2_host.specs.Disks.{Folder, Disk}
use Rattle.b2_host.specs.Outside.{Outside}
use Rattle.b2_host.specs.OutsideLaws.{Keeps}
use Rattle.b2_host.specs.Output.{Output}
use Rattle.b2_host.specs.OutputLaws.{OutKeeps}
use Rattle.b2_plan.specs.declared.step.Step.{Step}
use Rattle.b2_plan.specs.declared.plan.Plan.{Plan}
use Rattle.b2_log.specs.declared.line.LogLine.{LogLine}
use Rattle.b2_command_line.specs.Words.{Word}
use Rattle.b2_generate.specs.Planning.{Planned}
use Rattle.b2_prepare.specs.Meaning.{Means}
use Rattle.b2_runs.specs.Moments.{Moment}
use Rattle.b2_runs.specs.LogFiles.{IsLogIn}
use Rattle.b2_runs.specs.Staleness.{Update}
use Rattle.b2_runs.specs.FileReads.{IsTooBig}
use Rattle.b2_drain.specs.Drains.{Made}
use Rattle.b2_explain.specs.declared.cause.Why.{Why}
use Rattle.b2_explain.specs.declared.fault.ExplainFault.{ExplainFault}
use Rattle.b2_explain.specs.declared.fault.ExplainFault.TheVariants as explaining
use Rattle.b2_explain.specs.Entries.{AreTrueLines, entry_of}
use Rattle.b2_explain.specs.Whys.{IsExplained}
use Rattle.b2_explain.specs.Lines.{why_lines}
use Rattle.b2_refusals.specs.declared.fault.Fault.{Fault}
use Rattle.b2_refusals.specs.declared.fault.Fault.TheVariants as faults
use Rattle.b2_refusals.specs.Lines.{usage_line}
use Rattle.b2_top.specs.Askings.{IsProjectRefusal}
use Rattle.b2_top.specs.declared.answer.Answer.{Answer}
use Rattle.b2_top.specs.declared.answer.Answer.TheVariants as answers
use Rattle.b2_top.specs.declared.asked.ExplainCommand.{ExplainCommand}
use Rattle.b2_top.specs.Asked.{explain_command, explained_words}
use Rattle.b2_top.specs.Endings.{IsOrCutShort, IsUsageOrCutShort, IfRefused}
use Rattle.b2_top.specs.FreePlans.{HasNoFreePlan, IsFreeRefused, EndsWithFault, BeginsFreeReport, BeginsSomeFree}
use Rattle.b2_top.specs.Plans.{update_at}
use Rattle.b2_top.specs.RefusalCauses.{IsPatternRefused}
use Rattle.b2_top.specs.Reports.{echo_lines, refusal_report, fault_report}
use Rattle.b2_top.specs.Shows.{CountsTold, UsageTold}
use Rattle.b2_top.specs.BetweenMoments.{WrittenTold}
use Rattle.b2_top.specs.Writing.{Says, SaysFault}
use Rattle.b2_explain.specs.Faults.{ExplainCounts}
use Rattle.b2_explain.specs.Surveys.{IsStill}

-- ---- causes

-- the update of a plan that begins with these files and this log, with 64 jobs, and with `-a` or without
abbrev pub entry_at : Made → Bool → Planned → Folder → List LogLine → Update
entry_at made all planned folder log =
    update_at made (record { jobs = 64; all = all; quit = false; by_digest = false }) planned folder log

-- These are the causes of the needed steps, by the log as it stands, where the lines of it that are used are true.
pub record AreCauses (all : Bool) (planned : Planned) (disk : Disk) (whys : List Why) : Type 0 where
  pub log : List LogLine
  pub is_log : IsLogIn disk.now log
  pub told : (made : Made) → AreTrueLines (entry_at made all planned disk.now log) disk.past
      → IsExplained (entry_at made all planned disk.now log) whys

-- A needed step reads this file, which is too big to be scanned, where the lines of the log that are used are true.
pub record IsTooBigFor (all : Bool) (planned : Planned) (disk : Disk) (path : List ℕ) (size : ℕ) : Type 0 where
  pub log : List LogLine
  pub is_log : IsLogIn disk.now log
  pub told : (made : Made) → AreTrueLines (entry_at made all planned disk.now log) disk.past
      → IsTooBig (entry_at made all planned disk.now log) [] disk.now path size

-- ---- what was written

-- The words ask for an explanation, and the files and the free words come to a plan.
pub record HasPlan (words : List Word) (disk : Disk) : Type 0 where
  pub command : ExplainCommand
  pub asked : explain_command words ≡ Some command
  pub echoes : List Word
  pub planned : Planned
  pub means : Means disk None command.words echoes (Ok planned)

-- There is a plan, and the line of each needed step with its cause was written, after the lines of ECHO.
pub record IsTold (words : List Word) (disk : Disk) (written : List ℕ) : Type 0 where
  pub plan : HasPlan words disk
  pub whys : List Why
  pub causes : AreCauses plan.command.all plan.planned disk whys
  pub report : written ≡ echo_lines plan.echoes ++ why_lines plan.planned.steps whys

-- There is a plan, a file is too big, and the line that says so was written.
pub record IsTooBigTold (words : List Word) (disk : Disk) (fault : Fault) (written : List ℕ) : Type 0 where
  pub plan : HasPlan words disk
  pub path : List ℕ
  pub size : ℕ
  pub fault_is : fault ≡ faults.TooBig path size
  pub too_big : IsTooBigFor plan.command.all plan.planned disk path size
  pub report : written ≡ refusal_report plan.echoes plan.planned.steps fault

-- a whole report: of the causes, or of a file that is too big
abbrev pub IsReport : List Word → Disk → List ℕ → Type 0
IsReport words disk written = IsTold words disk written ⊎ ((fault : Fault) × IsTooBigTold words disk fault written)

-- the words ask for an explanation, and these are lines of ECHO
abbrev pub IsEchoed : List Word → List ℕ → Type 0
IsEchoed words front = (command : ExplainCommand) × (explain_command words ≡ Some command)
    × ((echoes : List Word) × (front ≡ echo_lines echoes))

-- what an answer says of the bytes that were written
abbrev pub ReportedBy : List Word → Moment → Moment → Answer → Disk → List ℕ → Type 0
ReportedBy words before after answers.Ok disk written = IsTold words disk written
ReportedBy words before after (answers.Failed lists) disk written = ⊥
ReportedBy words before after (answers.Refused fault) disk written =
    IsFreeRefused (explained_words words) disk fault written ⊎ IsTooBigTold words disk fault written
ReportedBy words before after answers.Usage disk written = written ≡ usage_line
ReportedBy words before after answers.HostFault disk written = EndsWithFault (IsEchoed words) before.out after.out written
ReportedBy words before after answers.OutOfMemory disk written = BeginsSomeFree (explained_words words) disk
    (IsReport words disk) (IsEchoed words) before.host.faults after.host.faults written
ReportedBy words before after answers.SinkFault disk written =
    BeginsFreeReport (explained_words words) disk (IsReport words disk) written

-- what was written is the report
abbrev pub ReportTold : List Word → Moment → Moment → Answer → Type 0
ReportTold words before after result = WrittenTold before after (ReportedBy words before after result)

-- after Ok exactly the lines of ECHO and the line of each needed step with its cause were written
abbrev pub ExplainedTold : List Word → Moment → Moment → Answer → Type 0
ExplainedTold words before after result = result ≡ answers.Ok → WrittenTold before after (IsTold words)

-- ---- causes of answers

-- There is a plan, and a file that a needed step of it reads is too big.
abbrev pub IsTooBigPlan : List Word → Disk → Fault → Type 0
IsTooBigPlan words disk fault = (plan : HasPlan words disk) × (path : List ℕ) × (size : ℕ) × (fault ≡ faults.TooBig path size)
    × IsTooBigFor plan.command.all plan.planned disk path size

-- what the words and the files are to an answer: with Ok there is a plan; with a refusal there is none for this cause, or a file is
-- too big
abbrev pub CausedBy : List Word → Disk → Answer → Type 0
CausedBy words disk answers.Ok = HasPlan words disk
CausedBy words disk (answers.Failed lists) = ⊥
CausedBy words disk (answers.Refused fault) =
    ((echoes : List Word) × HasNoFreePlan (explained_words words) disk echoes fault) ⊎ IsTooBigPlan words disk fault
CausedBy words disk answers.Usage = explain_command words ≡ None
CausedBy words disk answers.HostFault = ⊤
CausedBy words disk answers.OutOfMemory = ⊤
CausedBy words disk answers.SinkFault = ⊤

-- the cause of an answer, whatever the output tells
abbrev pub CauseTold : List Word → Outside → Answer → Type 0
CauseTold words before result = IfSome before.disk (λ disk. CausedBy words disk result)

-- ---- answers

-- an answer that an explanation may have
abbrev pub IsOfExplaining : Fault → Type 0
IsOfExplaining (faults.Plan why) = ⊤
IsOfExplaining (faults.Jam fault) = ⊥
IsOfExplaining (faults.StepCycle list) = ⊥
IsOfExplaining (faults.TooBig path size) = ⊤

abbrev pub IsOfExplain : Answer → Type 0
IsOfExplain answers.Ok = ⊤
IsOfExplain (answers.Failed lists) = ⊥
IsOfExplain (answers.Refused fault) = IsOfExplaining fault
IsOfExplain answers.Usage = ⊤
IsOfExplain answers.HostFault = ⊤
IsOfExplain answers.OutOfMemory = ⊤
IsOfExplain answers.SinkFault = ⊤

-- the answer is that a file is too big, which a needed step reads
abbrev pub IsTooBigAnswer : {words : List Word} → {disk : Disk} → HasPlan words disk → Answer → Type 0
IsTooBigAnswer {words} {disk} plan result = (path : List ℕ) × (size : ℕ) × (result ≡ answers.Refused (faults.TooBig path size))
    × IsTooBigFor plan.command.all plan.planned disk path size

-- Where there is a plan, the answer is Ok, or a file is too big, or the call was cut short; or the files and the words come to a
-- pattern that is refused though it reads as one.
abbrev pub CompleteTold : List Word → Outside → Answer → Type 0
CompleteTold words before result = IfSome before.disk (λ disk. (plan : HasPlan words disk)
    → IsOrCutShort result answers.Ok ⊎ IsTooBigAnswer plan result ⊎ IsPatternRefused disk plan.command.words result)

-- All that an explanation with these words promises.
pub record IsAnswered (words : List Word) (before after : Moment) (result : Answer) : Type 0 where
  pub explained : ExplainedTold words before after result
  pub reported : ReportTold words before after result
  pub disk : after.host.disk ≡ before.host.disk
  pub children : after.host.children ≡ before.host.children
  pub keeps : Keeps before.host after.host
  pub out_keeps : OutKeeps before.out after.out
  pub counts : CountsTold before after result
  pub usage : explain_command words ≡ None → IsUsageOrCutShort result
  pub alone : explain_command words ≡ None → after.host ≡ before.host
  pub no_usage : result ≡ answers.Usage → explain_command words ≡ None
  pub usage_told : UsageTold before after result
  pub cause : CauseTold words before.host result
  pub whole : IfRefused IsProjectRefusal result
  pub not_failed : IsOfExplain result
  pub complete : CompleteTold words before.host result

-- the same of a call with words that ask for this explanation
abbrev pub Explains : ExplainCommand → Moment → Moment → Answer → Type 0
Explains command before after result = (words : List Word) → explain_command words ≡ Some command
    → IsAnswered words before after result

-- ---- what the code does

-- the causes by the log's file as it stands, or that a file is too big
abbrev pub ExplainedBy : Plan → Bool → Disk → Result (List Why) ExplainFault → Type 0
ExplainedBy plan all disk (Ok whys) = (log : List LogLine) × IsLogIn disk.now log × ((made : Made)
    → AreTrueLines (entry_of plan made all disk.now log) disk.past → IsExplained (entry_of plan made all disk.now log) whys)
ExplainedBy plan all disk (Err explaining.Host) = ⊤
ExplainedBy plan all disk (Err (explaining.TooBig path size)) = (log : List LogLine) × IsLogIn disk.now log × ((made : Made)
    → AreTrueLines (entry_of plan made all disk.now log) disk.past
    → IsTooBig (entry_of plan made all disk.now log) [] disk.now path size)
ExplainedBy plan all disk (Err explaining.OutOfMemory) = ⊤

abbrev pub LogExplained : Plan → Bool → Outside → Result (List Why) ExplainFault → Type 0
LogExplained plan all before result = IfSome before.disk (λ disk. ExplainedBy plan all disk result)

-- the lines of ECHO, and those of the causes
abbrev pub explained_report : List Word → List Step → List Why → List ℕ
explained_report echoes steps whys = echo_lines echoes ++ why_lines steps whys

-- what is written of causes after lines of ECHO, or of why there are none, and what is answered
abbrev pub TellsWhys : List Word → List Step → Result (List Why) ExplainFault → Output → Output → Answer → Type 0
TellsWhys echoes steps (Ok whys) before after result = Says answers.Ok (explained_report echoes steps whys) before after result
TellsWhys echoes steps (Err explaining.Host) before after result = SaysFault (fault_report echoes) before after result
TellsWhys echoes steps (Err (explaining.TooBig path size)) before after result =
    Says (answers.Refused (faults.TooBig path size)) (refusal_report echoes steps (faults.TooBig path size)) before after result
TellsWhys echoes steps (Err explaining.OutOfMemory) before after result = (result ≡ answers.OutOfMemory) × (after ≡ before)

-- The causes of the plan's needed steps were found, or why there are none, before anything was written; and that was told.
pub record TellsPlan (echoes : List Word) (plan : Plan) (all : Bool) (before after : Moment) (result : Answer) : Type 0 where
  pub explained : Result (List Why) ExplainFault
  pub still : IsStill before.host after.host
  pub counts : ExplainCounts before.host after.host explained
  pub by_log : LogExplained plan all before.host explained
  pub tells : TellsWhys echoes plan.steps explained before.out after.out result
