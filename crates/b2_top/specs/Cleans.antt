-- What cleaning promises, from the moment of its start to that of its answer.
use Rattle.std.specs.Prelude.{◌≡◌, ◌≢◌, ◌⊎◌, ⊤, ℕ, List, [], ◌++◌, length, take, Some, None, Ok, Err, Result}
use Rattle.std.specs.Option.{IfSome}
use Rattle.std.specs.List.{flat_map}
use Rattle.b2_host.specs.declared.fault.IoFault.{IoFault}
use Rattle.b2_host.specs.Disks.{Disk}
use Rattle.b2_host.specs.ChildProcesses.{BothTold}
use Rattle.b2_host.specs.Outside.{Outside}
use Rattle.b2_host.specs.OutsideLaws.{Keeps}
use Rattle.b2_host.specs.Output.{Output, with_written}
use Rattle.b2_host.specs.OutputLaws.{OutKeeps}
use Rattle.b2_host.specs.FileCalls.{log_path}
use Rattle.b2_plan.specs.declared.plan.Plan.{Plan}
use Rattle.b2_command_line.specs.Words.{Word}
use Rattle.b2_runs.specs.Moments.{Moment}
use Rattle.b2_runs.specs.Logs.{Making}
use Rattle.b2_runs.specs.LogFiles.{IsTrueOn}
use Rattle.b2_explain.specs.declared.fault.CleanFault.{CleanFault}
use Rattle.b2_explain.specs.declared.fault.CleanFault.TheVariants as cleaning
use Rattle.b2_explain.specs.Faults.{CleanCounts}
use Rattle.b2_explain.specs.Cleaning.{IsToClean, IsCleaned, removals, removal_lines, CleanTold, CleanWritten}
use Rattle.b2_explain.specs.Lines.{removed_line, removed_count_line}
use Rattle.b2_refusals.specs.Lines.{usage_line}
use Rattle.b2_top.specs.Askings.{IsProjectRefusal}
use Rattle.b2_top.specs.declared.answer.Answer.{Answer}
use Rattle.b2_top.specs.declared.answer.Answer.TheVariants as answers
use Rattle.b2_top.specs.Asked.{clean_words}
use Rattle.b2_top.specs.Endings.{IsOrCutShort, IsUsageOrCutShort, IfRefused}
use Rattle.b2_top.specs.FreePlans.{HasFreePlan, HasNoFreePlan, IsFreeRefused, EndsWithFault, BeginsFreeReport, BeginsSomeFree}
use Rattle.b2_top.specs.RefusalCauses.{IsPatternRefused}
use Rattle.b2_top.specs.Reports.{echo_lines, fault_report}
use Rattle.b2_top.specs.Shows.{CountsTold, UsageTold, IsOfLook}
use Rattle.b2_top.specs.BetweenMoments.{WrittenTold, Wrote}
use Rattle.b2_top.specs.Writing.{Writes, unwritten, Says, SaysFault}

-- the words ask for cleaning, and the files and the free words come to a plan
abbrev pub HasPlan : List Word → Disk → Type 0
HasPlan words disk = HasFreePlan (clean_words words) disk

-- ---- what is left

-- Whatever the answer: a true log stays true. Of the other files at most outputs are gone that the plan's steps are cleaned of.
pub record LeavesFiles (words : List Word) (disk later : Disk) : Type 0 where
  pub true_log : (m : Making) → IsTrueOn m disk → IsTrueOn m later
  pub others : (path : List ℕ) → path ≢ log_path → ((plan : HasPlan words disk) → IsToClean plan.planned.steps path → ⊥)
      → later.now path ≡ disk.now path
  pub outputs : (path : List ℕ) → path ≢ log_path → (later.now path ≡ disk.now path) ⊎ (later.now path ≡ None)

-- where files are visible
abbrev pub LeavesTold : List Word → Outside → Outside → Type 0
LeavesTold words before after = BothTold (LeavesFiles words) before.disk after.disk

-- with Usage or a refusal no file has changed
abbrev pub StaysUnlessCleaned : Answer → Outside → Outside → Type 0
StaysUnlessCleaned answers.Ok before after = ⊤
StaysUnlessCleaned (answers.Failed lists) before after = ⊥
StaysUnlessCleaned (answers.Refused fault) before after = after.disk ≡ before.disk
StaysUnlessCleaned answers.Usage before after = after.disk ≡ before.disk
StaysUnlessCleaned answers.HostFault before after = ⊤
StaysUnlessCleaned answers.OutOfMemory before after = ⊤
StaysUnlessCleaned answers.SinkFault before after = ⊤

-- ---- what was written

-- There is a plan, and the lines of ECHO were written, that of each file that was removed, and how many there were.
pub record IsTold (words : List Word) (disk : Disk) (written : List ℕ) : Type 0 where
  pub plan : HasPlan words disk
  pub report : written ≡ echo_lines plan.echoes ++ removal_lines disk.now plan.planned.steps
      ++ removed_count_line (length (removals disk.now plan.planned.steps))

-- There is a plan, all was removed that was to be, and this was told.
pub record IsCleanedTold (words : List Word) (disk later : Disk) (written : List ℕ) : Type 0 where
  pub told : IsTold words disk written
  pub cleaned : IsCleaned told.plan.planned.steps disk later

-- after Ok that is so; the steps are cleaned even where no bytes are visible
abbrev pub CleanedTold : List Word → Moment → Moment → Answer → Type 0
CleanedTold words before after result = result ≡ answers.Ok → BothTold (λ disk later.
    ((plan : HasPlan words disk) × IsCleaned plan.planned.steps disk later)
    × Wrote before.out after.out (IsCleanedTold words disk later)) before.host.disk after.host.disk

-- the lines of ECHO, and where there is a plan those of some files that were removed, the first ones
abbrev pub IsBegun : List Word → Disk → List ℕ → Type 0
IsBegun words disk front = (free : List Word) × (clean_words words ≡ Some free) × (((echoes : List Word) × (front ≡ echo_lines echoes))
    ⊎ ((plan : HasPlan words disk) × (count : ℕ) × (front ≡ echo_lines plan.echoes
    ++ flat_map removed_line (take count (removals disk.now plan.planned.steps)))))

-- what an answer says of the bytes that were written
abbrev pub ReportedBy : List Word → Moment → Moment → Answer → Disk → List ℕ → Type 0
ReportedBy words before after answers.Ok disk written = IsTold words disk written
ReportedBy words before after (answers.Failed lists) disk written = ⊥
ReportedBy words before after (answers.Refused fault) disk written = IsFreeRefused (clean_words words) disk fault written
ReportedBy words before after answers.Usage disk written = written ≡ usage_line
ReportedBy words before after answers.HostFault disk written = EndsWithFault (IsBegun words disk) before.out after.out written
ReportedBy words before after answers.OutOfMemory disk written = BeginsSomeFree (clean_words words) disk (IsTold words disk)
    (IsBegun words disk) before.host.faults after.host.faults written
ReportedBy words before after answers.SinkFault disk written =
    BeginsFreeReport (clean_words words) disk (IsTold words disk) written

-- what was written is the report
abbrev pub ReportTold : List Word → Moment → Moment → Answer → Type 0
ReportTold words before after result = WrittenTold before after (ReportedBy words before after result)

-- ---- causes of answers

-- what the words and the files are to an answer: with Ok there is a plan, with a refusal none, for this cause
abbrev pub CausedBy : List Word → Disk → Answer → Type 0
CausedBy words disk answers.Ok = HasPlan words disk
CausedBy words disk (answers.Failed lists) = ⊥
CausedBy words disk (answers.Refused fault) = (echoes : List Word) × HasNoFreePlan (clean_words words) disk echoes fault
CausedBy words disk answers.Usage = clean_words words ≡ None
CausedBy words disk answers.HostFault = ⊤
CausedBy words disk answers.OutOfMemory = ⊤
CausedBy words disk answers.SinkFault = ⊤

-- the cause of an answer, whatever the output tells
abbrev pub CauseTold : List Word → Outside → Answer → Type 0
CauseTold words before result = IfSome before.disk (λ disk. CausedBy words disk result)

-- ---- answers

-- Where there is a plan, the answer is Ok, or the call was cut short; or the files and the words come to a pattern that is refused
-- though it reads as one.
abbrev pub CompleteTold : List Word → Outside → Answer → Type 0
CompleteTold words before result = IfSome before.disk (λ disk. (plan : HasPlan words disk)
    → IsOrCutShort result answers.Ok ⊎ IsPatternRefused disk plan.words result)

-- All that cleaning with these words promises.
pub record IsAnswered (words : List Word) (before after : Moment) (result : Answer) : Type 0 where
  pub cleaned : CleanedTold words before after result
  pub leaves : LeavesTold words before.host after.host
  pub stays : StaysUnlessCleaned result before.host after.host
  pub reported : ReportTold words before after result
  pub children : after.host.children ≡ before.host.children
  pub keeps : Keeps before.host after.host
  pub out_keeps : OutKeeps before.out after.out
  pub counts : CountsTold before after result
  pub usage : clean_words words ≡ None → IsUsageOrCutShort result
  pub alone : clean_words words ≡ None → after.host ≡ before.host
  pub no_usage : result ≡ answers.Usage → clean_words words ≡ None
  pub usage_told : UsageTold before after result
  pub cause : CauseTold words before.host result
  pub whole : IfRefused IsProjectRefusal result
  pub not_failed : IsOfLook result
  pub complete : CompleteTold words before.host result

-- the same of a call with words whose free words these are
abbrev pub Cleans : List Word → Moment → Moment → Answer → Type 0
Cleans free before after result = (words : List Word) → clean_words words ≡ Some free → IsAnswered words before after result

-- ---- what the code does

-- what is written at the end, and what is answered
abbrev pub TellsCleaned : Result ℕ CleanFault → Output → Output → Answer → Type 0
TellsCleaned (Ok count) before after result = Says answers.Ok (removed_count_line count) before after result
TellsCleaned (Err cleaning.Host) before after result = SaysFault (fault_report []) before after result
TellsCleaned (Err cleaning.Sink) before after result = (result ≡ answers.SinkFault) × (after ≡ before)
TellsCleaned (Err cleaning.OutOfMemory) before after result = (result ≡ answers.OutOfMemory) × (after ≡ before)

-- The lines of ECHO could not be written; or they were, the plan was cleaned, and it was told what that came to.
pub data CleansPlan (echoes : List Word) (plan : Plan) (before after : Moment) (result : Answer) : Type 0 where
  cut : (fault : IoFault) → after.host ≡ before.host → Writes {T = Unit {0}} (echo_lines echoes) before.out after.out (Err fault)
      → result ≡ unwritten fault → CleansPlan echoes plan before after result
  told : (cleaned : Result ℕ CleanFault) (echoed between : Output) → echoed ≡ with_written (echo_lines echoes) before.out
      → CleanCounts before.host echoed after.host between cleaned → CleanTold plan.steps before.host after.host cleaned
      → CleanWritten plan.steps before.host echoed between cleaned → after.host.children ≡ before.host.children
      → Keeps before.host after.host → OutKeeps echoed between → TellsCleaned cleaned between after.out result
      → CleansPlan echoes plan before after result
