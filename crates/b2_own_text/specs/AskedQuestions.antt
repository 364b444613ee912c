-- What comes of a question that is asked.
use Rattle.std.specs.Borrow.{MutBor}
use Rattle.std.specs.Prelude.{◌≡◌, ℕ, List, Option, Some, None, Result, Ok, Err, IfErr}
use Rattle.b2_host.specs.Outside.{Outside}
use Rattle.b2_evaluator.specs.Answers.{Answers, IsTellable, IsTold}
use Rattle.b2_base.specs.Counts.{IsCounted}
use Rattle.b2_declared.specs.declared.place.Place.{Place}
use Rattle.jam_journal.specs.Tables.{Text}
use Rattle.jam_scope.specs.Worlds.{Worlds}
use Rattle.jam_meaning.specs.Rolled.{StepAnswer}
use Rattle.jam_meaning.specs.StepJobs.{job_of, step_answer}
use Rattle.jam_meaning.specs.declared.step.StepJob.{StepJob}
use Rattle.jam_meaning.specs.declared.step.StepText.{StepText}
use Rattle.jam_effects.specs.declared.fault.EvalFault.{EvalFault}
use Rattle.b2_own_text.specs.declared.question.Question.{Question}
use Rattle.b2_own_text.specs.declared.question.Question.TheVariants.{OfRule, OfStep}
use Rattle.b2_own_text.specs.EvaluationParts.{texts}
use Rattle.b2_own_text.specs.Faults.{is_host_fault, is_out_of_memory}
use Rattle.b2_own_text.specs.KeptState.{held, EndsQuestion}
use Rattle.b2_own_text.specs.Questions.{EndsWith}
use Rattle.b2_own_text.specs.Worlds.{told_in}

-- A question is asked of these projects in these worlds: its answer is the one that is told, a fault is one that it ends with, the files
-- and the child processes are as before, and the count of faults says whether the host failed.
pub record Asks {A B : Type 0} (view : A → B) (asked : Answers EvalFault → Result B EvalFault) (question : Question)
    (projects : List Place) (worlds : Worlds) (host : ℕ) (before after : Outside) (result : Result A EvalFault) : Type 0 where
  pub told : IsTold is_host_fault is_out_of_memory view asked (told_in projects worlds before.disk) result
  pub ends : IfErr result (EndsQuestion (held projects worlds host before) question)
  pub counted : IsCounted is_host_fault is_out_of_memory before.faults after.faults result
  pub disk : after.disk ≡ before.disk
  pub children : after.children ≡ before.children

-- a rule of a project is asked for, by what the files say of themselves
abbrev pub AsksRule : {F : Type 0} → (F → Outside) → ℕ → Text → ℕ → List Text → List Place → Worlds → MutBor F → MutBor F
    → Result (List Text) EvalFault → Type 0
AsksRule outside project rule line properties projects worlds files later =
    Asks texts (λ a. a.returned project rule line properties) (OfRule project rule line properties) projects worlds files.ghost_name
    (outside files.now) (outside later.now)

-- the text of a step is asked for
abbrev pub AsksStep : {F : Type 0} → (F → Outside) → StepJob → List Place → Worlds → MutBor F → MutBor F → Result StepText EvalFault → Type 0
AsksStep outside job projects worlds files later =
    Asks step_answer (λ a. a.step_text (job_of job)) (OfStep job) projects worlds files.ghost_name (outside files.now) (outside later.now)

-- a question ends with a fault
abbrev pub EndsOn : {F : Type 0} → (F → Outside) → Question → List Place → Worlds → MutBor F → EvalFault → Type 0
EndsOn outside question projects worlds files fault = EndsQuestion (held projects worlds files.ghost_name (outside files.now)) question fault

-- the question has an answer
abbrev pub HasAnswer : Answers EvalFault → Question → Type 0
HasAnswer answers (OfRule project rule line properties) = (texts : List Text) × (answers.returned project rule line properties ≡ Ok texts)
HasAnswer answers (OfStep job) = (step : StepAnswer) × (answers.step_text (job_of job) ≡ Ok step)

-- where answers are told, a question has one, or ends with the fault that is told, unless that is the host, memory or a refused pattern
abbrev pub IsAsked : {A : Type 0} → Option (Answers EvalFault) → Question → Result A EvalFault → Type 0
IsAsked None question result = Unit {0}
IsAsked (Some told) question (Ok done) = HasAnswer told question
IsAsked (Some told) question (Err fault) = IsTellable is_host_fault is_out_of_memory fault → EndsWith told question fault
