-- Questions of a loaded project's own text, and those that end with a pattern which is refused although it reads as one.
use Rattle.std.specs.Prelude.{◌≡◌, ℕ, ◌==◌, Bool, false, ◌&&◌, List, Some, Err, if◌then◌else◌}
use Rattle.std.specs.Cmp.Lexicographic.{pointwise}
use Rattle.std.specs.Str.{bytes_eq}
use Rattle.b2_host.specs.Disks.{Disk}
use Rattle.b2_evaluator.specs.Answers.{Answers}
use Rattle.b2_declared.specs.declared.place.Place.{Place}
use Rattle.jam_journal.specs.Tables.{Text}
use Rattle.jam_scope.specs.Worlds.{Worlds}
use Rattle.jam_meaning.specs.Rolled.{Job}
use Rattle.jam_meaning.specs.StepJobs.{job_of}
use Rattle.jam_effects.specs.declared.fault.EvalFault.{EvalFault}
use Rattle.jam_effects.specs.Causes.{refused_by}
use Rattle.b2_own_text.specs.DiskViews.{refusing}
use Rattle.b2_own_text.specs.Worlds.{answers_in}
use Rattle.b2_own_text.specs.declared.question.Question.{Question}
use Rattle.b2_own_text.specs.declared.question.Question.TheVariants.{OfRule, OfStep}

-- the question ends with this fault
abbrev pub EndsWith : Answers EvalFault → Question → EvalFault → Type 0
EndsWith answers (OfRule project rule line properties) fault = answers.returned project rule line properties ≡ Err fault
EndsWith answers (OfStep job) fault = answers.step_text (job_of job) ≡ Err fault

-- ---- whether a question is this one

abbrev pub is_rule : Question → ℕ → Text → ℕ → List Text → Bool
is_rule (OfRule project rule line properties) other name place texts =
    other == project && bytes_eq name rule && place == line && pointwise bytes_eq texts properties
is_rule (OfStep job) other name place texts = false

abbrev pub is_same_job : Job → Job → Bool
is_same_job a b =
    bytes_eq a.name b.name && bytes_eq a.owner b.owner && bytes_eq a.path b.path && a.line == b.line
    && pointwise bytes_eq a.outs b.outs && pointwise bytes_eq a.ins b.ins && pointwise bytes_eq a.props b.props

abbrev pub is_step : Question → Job → Bool
is_step (OfRule project rule line properties) other = false
is_step (OfStep job) other = is_same_job other (job_of job)

-- ---- a question that ends with a fault

-- these answers, but that this question ends with this fault
abbrev pub with_fault : Question → EvalFault → Answers EvalFault → Answers EvalFault
with_fault question fault answers = record {
  returned = λ project rule line properties. if is_rule question project rule line properties then Err fault else answers.returned project rule line properties;
  step_text = λ job. if is_step question job then Err fault else answers.step_text job;
}

-- The question of these projects, in these worlds, ends with this fault: the call with so many turns left has this pattern, which is
-- refused although it reads as one, and which the fault names.
pub record IsRefused (projects : List Place) (worlds : Worlds) (disk : Disk) (question : Question) (fault : EvalFault) : Type 0 where
  pub left : ℕ
  pub pattern : Text
  pub names : refused_by fault ≡ Some pattern
  pub ends : EndsWith (answers_in (refusing disk left pattern) projects worlds) question fault
