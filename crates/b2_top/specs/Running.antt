-- What the parts of a call do.
use Rattle.std.specs.Prelude.{◌≡◌, ℕ, List, [], ◌∷◌, Some, None, Result, Err, IfSome, ⊤}
use Rattle.b2_top.specs.Reports.{echo_lines, refusal_report, fault_report}
use Rattle.b2_top.specs.Askings.{Asking, build_of, IsPatternRefusedIn, IsWholeFor}
use Rattle.b2_top.specs.Writing.{Writes, unwritten, Says, SaysFault}
use Rattle.b2_top.specs.declared.answer.Answer.{Answer}
use Rattle.b2_top.specs.declared.answer.Answer.TheVariants as answers
use Rattle.b2_top.specs.declared.build_command.BuildCommand.{BuildCommand}
use Rattle.b2_host.specs.Disks.{Disk}
use Rattle.b2_host.specs.Output.{Output, with_written}
use Rattle.b2_host.specs.OutputLaws.{OutKeeps}
use Rattle.b2_host.specs.declared.fault.IoFault.{IoFault}
use Rattle.b2_plan.specs.declared.plan.Plan.{Plan}
use Rattle.b2_plan.specs.declared.step.Step.{Step}
use Rattle.b2_refusals.specs.declared.fault.Fault.{Fault}
use Rattle.b2_refusals.specs.declared.fault.Fault.TheVariants as faults
use Rattle.b2_runs.specs.Moments.{Moment}
use Rattle.b2_runs.specs.UpdateAnswers.{CausedBy, LeavesOpen, HasHappened}
use Rattle.b2_drain.specs.Drains.{Made}
use Rattle.b2_update.specs.Answers.{answer_of}
use Rattle.b2_update.specs.Moments.{moment}
use Rattle.b2_update.specs.Updates.{UpdateTold}
use Rattle.b2_update.specs.declared.options.Options.{Options}
use Rattle.b2_update.specs.declared.update_answer.UpdateAnswer.{UpdateAnswer}
use Rattle.b2_update.specs.declared.update_answer.UpdateAnswer.TheVariants as ends
use Rattle.b2_command_line.specs.Words.{Word}
use Rattle.b2_top.specs.Commands.{build_command}
use Rattle.b2_top.specs.Endings.{IsUsageOrCutShort, IfRefused}
use Rattle.b2_top.specs.LastLines.{AreVerdictLines}
use Rattle.b2_top.specs.Plans.{HasPlanFor}
use Rattle.b2_top.specs.Answered.{WhatHappened, CountsTold, UsageTold, StartsNone, ReportFor, TurnsFor, LeftOpenTold}

-- ---- an update

-- the answer of a call whose update ended so, where all that comes after it could be written
abbrev pub own_answer : UpdateAnswer → Answer
own_answer ends.Done = answers.Ok
own_answer (ends.Failed lists) = answers.Failed lists
own_answer (ends.StepCycle list) = answers.Refused (faults.StepCycle list)
own_answer (ends.TooBig path size) = answers.Refused (faults.TooBig path size)
own_answer ends.HostFault = answers.HostFault
own_answer ends.SinkFault = answers.SinkFault
own_answer ends.OutOfMemory = answers.OutOfMemory

-- the verdicts of these tests were written, as after an update that ended so
abbrev pub WritesVerdicts : List Step → UpdateAnswer → List (List ℕ × ℕ) → Output → Output → Result (Unit {0}) IoFault
    → Type 0
WritesVerdicts steps ended tests before after result =
    (lines : List ℕ) × AreVerdictLines steps (answer_of ended) tests lines × Writes lines before after result

-- After an update that came to its end, nothing more is written where no test is asked for; else the verdicts.
abbrev pub TellsVerdicts : List Step → List (List ℕ × ℕ) → UpdateAnswer → Output → Output → Answer → Type 0
TellsVerdicts steps [] ended before after result = (result ≡ own_answer ended) × (after ≡ before)
TellsVerdicts steps (test ∷ more) ended before after result =
    (lines : List ℕ) × AreVerdictLines steps (answer_of ended) (test ∷ more) lines
    × Says (own_answer ended) lines before after result

-- what is written and answered after an update that ended so, for these tests
abbrev pub EndsUpdate : List Step → List (List ℕ × ℕ) → UpdateAnswer → Output → Output → Answer → Type 0
EndsUpdate steps tests ends.Done before after result = TellsVerdicts steps tests ends.Done before after result
EndsUpdate steps tests (ends.Failed lists) before after result =
    TellsVerdicts steps tests (ends.Failed lists) before after result
EndsUpdate steps tests (ends.StepCycle list) before after result =
    Says (answers.Refused (faults.StepCycle list)) (refusal_report [] steps (faults.StepCycle list)) before after result
EndsUpdate steps tests (ends.TooBig path size) before after result =
    Says (answers.Refused (faults.TooBig path size)) (refusal_report [] steps (faults.TooBig path size))
    before after result
EndsUpdate steps tests ends.HostFault before after result = SaysFault (fault_report []) before after result
EndsUpdate steps tests ends.SinkFault before after result = (result ≡ answers.SinkFault) × (after ≡ before)
EndsUpdate steps tests ends.OutOfMemory before after result = (result ≡ answers.OutOfMemory) × (after ≡ before)

-- A plan is updated, and its end is told, with the verdicts of these tests.
pub record Updates (made : Made) (options : Options) (plan : Plan) (tests : List (List ℕ × ℕ)) (before after : Moment)
    (result : Answer) : Type 0 where
  pub ended : UpdateAnswer
  pub out : Output
  pub counts : CausedBy before (moment after.host out) (answer_of ended)
  pub out_keeps : OutKeeps before.out out
  pub turns : HasHappened plan.steps options.jobs before.host.disk before.host.children.events after.host.children.events
      (answer_of ended)
  pub left_open : LeavesOpen plan.steps before.host.children after.host.children
  pub told : UpdateTold plan options made before (moment after.host out) ended
  pub ends : EndsUpdate plan.steps tests ended out after.out result

-- The lines of ECHO are written, and then the plan is updated.
pub data Runs (made : Made) (echoes : List Word) (options : Options) (plan : Plan) (tests : List (List ℕ × ℕ))
    (before after : Moment) (result : Answer) : Type 0 where
  updates : (out : Output) → out ≡ with_written (echo_lines echoes) before.out
      → Updates made options plan tests (moment before.host out) after result
      → Runs made echoes options plan tests before after result
  stops : (fault : IoFault) → Writes {T = Unit {0}} (echo_lines echoes) before.out after.out (Err fault)
      → after.host ≡ before.host → result ≡ unwritten fault → Runs made echoes options plan tests before after result

-- ---- a call

-- where there is a plan, a refusal before its update is that of a pattern which is refused though it reads as one
abbrev pub OnlyPattern : Asking → Disk → Fault → Type 0
OnlyPattern asking disk fault = (plan : HasPlanFor asking disk)
    → IsPatternRefusedIn asking.source disk plan.command.words (answers.Refused fault)

abbrev pub OnlyPatternRefused : Asking → Disk → Fault → Type 0
OnlyPatternRefused asking disk (faults.Plan why) = OnlyPattern asking disk (faults.Plan why)
OnlyPatternRefused asking disk (faults.Jam fault) = OnlyPattern asking disk (faults.Jam fault)
OnlyPatternRefused asking disk (faults.StepCycle list) = ⊤
OnlyPatternRefused asking disk (faults.TooBig path size) = ⊤

-- What a call does, of which the rest of its promises follows.
pub record CallsFor (made : Made) (asking : Asking) (before after : Moment) (result : Answer) : Type 0 where
  pub happened : WhatHappened made asking before.host after.host result
  pub counts : CountsTold before after result
  pub usage : asking.command ≡ None → IsUsageOrCutShort result
  pub alone : asking.command ≡ None → after.host ≡ before.host
  pub no_usage : result ≡ answers.Usage → asking.command ≡ None
  pub usage_told : UsageTold before after result
  pub starts_none : StartsNone result before.host after.host
  pub whole : IfRefused (λ fault. IsWholeFor fault asking.source) result
  pub patterns : IfSome before.host.disk (λ disk. IfRefused (OnlyPatternRefused asking disk) result)
  pub reported : ReportFor made asking before after result
  pub turns : TurnsFor asking.command before.host after.host result
  pub left_open : LeftOpenTold before.host after.host
  pub out_keeps : OutKeeps before.out after.out

-- the same of the words of a build
abbrev pub Calls : Made → List Word → Moment → Moment → Answer → Type 0
Calls made words before after result = CallsFor made (build_of words) before after result

-- what is promised of each list of words that asks for this build
abbrev pub Builds : Made → BuildCommand → Moment → Moment → Answer → Type 0
Builds made command before after result =
    (words : List Word) → build_command words ≡ Some command → Calls made words before after result
