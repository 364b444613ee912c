-- What the parts of an evaluation do, as they are proved.
use Rattle.std.specs.Prelude.{◌≡◌, ℕ, List, [], ◌∷◌, Option, Some, Result, Err, IfErr}
use Rattle.b2_host.specs.Disks.{Disk, IsConsistent}
use Rattle.b2_host.specs.Outside.{Outside}
use Rattle.b2_host.specs.OutsideLaws.{Keeps}
use Rattle.b2_evaluator.specs.Answers.{Agrees}
use Rattle.b2_base.specs.Counts.{IsCounted}
use Rattle.b2_declared.specs.declared.place.Place.{Place}
use Rattle.jam_journal.specs.Tables.{Text}
use Rattle.jam_journal.specs.Scopes.{Value, enter}
use Rattle.jam_scope.specs.Changes.{changed, rescoped, set_place}
use Rattle.jam_scope.specs.Lines.{find_rule}
use Rattle.jam_scope.specs.Rules.{Rule}
use Rattle.jam_scope.specs.Worlds.{World, Worlds}
use Rattle.jam_meaning.specs.Faults.{Spot}
use Rattle.jam_meaning.specs.Outcomes.{in_module}
use Rattle.jam_meaning.specs.Rolled.{Job, StepAnswer, step_text}
use Rattle.jam_meaning.specs.States.{with_world}
use Rattle.jam_natives.specs.Keeping.{Kept}
use Rattle.jam_effects.specs.declared.fault.EvalCause.{EvalCause}
use Rattle.jam_effects.specs.declared.fault.EvalFault.{EvalFault}
use Rattle.jam_effects.specs.declared.fault.EvalFault.TheVariants as faults
use Rattle.jam_effects.specs.Causes.{cause_of, refused_by, HoldsNoMemory, IsFault}
use Rattle.jam_effects.specs.Views.{What}
use Rattle.b2_own_text.specs.Faults.{answer_of, is_host_fault, is_out_of_memory}
use Rattle.b2_own_text.specs.DiskViews.{setting_of, refusing}
use Rattle.b2_own_text.specs.Worlds.{state_in, call_found, returned_in, text_in, text_of}

-- a fault that occurs while no statement runs, moved to a spot
abbrev pub IsPlacedAt : Spot → Text → ℕ → EvalCause → EvalFault → Type 0
IsPlacedAt spot [] line why moved = IsFault spot (cause_of why) moved
IsPlacedAt spot (byte ∷ bytes) line why moved = moved ≡ faults.At (byte ∷ bytes) line why

abbrev pub IsPlaced : Spot → EvalFault → EvalFault → Type 0
IsPlaced spot faults.Host moved = moved ≡ faults.Host
IsPlaced spot faults.OutOfMemory moved = moved ≡ faults.OutOfMemory
IsPlaced spot (faults.At path line why) moved = IsPlacedAt spot path line why moved

-- the answer is the one that is told over this disk, unless the host failed, memory ran out or a pattern was refused
abbrev pub IsAnswered : {A B : Type 0} → (A → B) → What Kept B → Worlds → Disk → Result A EvalFault → Type 0
IsAnswered view what worlds disk result = Agrees is_host_fault is_out_of_memory view (answer_of (what (setting_of disk) (state_in worlds))) result

-- a fault that is a pattern which was refused: evaluation ends with it, where a call has this pattern and it is refused
abbrev pub EndsWithRefusal : {B : Type 0} → What Kept B → Worlds → Disk → EvalFault → Type 0
EndsWithRefusal what worlds disk fault =
    (pattern : Text) → refused_by fault ≡ Some pattern → (left : ℕ) × (answer_of (what (refusing disk left pattern) (state_in worlds)) ≡ Err fault)

-- An evaluation that begins in these worlds: where the files are visible, its answer is the one that is told, also where a pattern
-- was refused. Over every host the files and the child processes are as before, and the count of faults says whether the host failed.
pub record Evaluates {A B : Type 0} (view : A → B) (what : What Kept B) (worlds : Worlds) (before after : Outside)
    (result : Result A EvalFault) : Type 0 where
  pub told : (disk : Disk) → before.disk ≡ Some disk → IsConsistent disk → IsAnswered view what worlds disk result
  pub refused : (disk : Disk) → before.disk ≡ Some disk → IsConsistent disk → IfErr result (EndsWithRefusal what worlds disk)
  pub disk : after.disk ≡ before.disk
  pub children : after.children ≡ before.children
  pub keeps : Keeps before after
  pub counted : IsCounted is_host_fault is_out_of_memory before.faults after.faults result
  pub whole : IfErr result HoldsNoMemory

-- the same by what the files say of themselves
abbrev pub EvaluatesOn : {F A B : Type 0} → (F → Outside) → (A → B) → What Kept B → Worlds → F → F → Result A EvalFault → Type 0
EvaluatesOn outside view what worlds files later result = Evaluates view what worlds (outside files) (outside later) result

-- there is a rule of this name
abbrev pub HasRule : Text → World → Type 0
HasRule name w = (rule : Rule) × (find_rule name w ≡ Some rule)

-- how lists of texts are seen
abbrev pub texts : List Text → List Text
texts list = list

-- the rule of a name is called, in the module of its project, and then all is undone
abbrev pub call_at : Spot → Text → List Text → What Kept Value
call_at spot name properties = λ setting s. call_found setting spot name properties s

abbrev pub in_project_at : Place → Text → ℕ → List Text → What Kept Value
in_project_at project name line properties =
    λ setting s. in_module project.«module» (λ s₂. call_found setting (record { path = project.file; line = line }) name properties s₂)
    (with_world (set_place project.dir) s)

abbrev pub returned_at : Place → Text → ℕ → List Text → What Kept Value
returned_at project name line properties = λ setting s. returned_in setting project name line properties s

-- a rule of a project was called for properties, by what the files say of themselves
abbrev pub ReturnsOn : {F : Type 0} → (F → Outside) → Place → Text → ℕ → List Text → Worlds → F → F → Result (List Text) EvalFault → Type 0
ReturnsOn outside project name line properties = EvaluatesOn outside texts (returned_at project name line properties)

-- the worlds in which a rule of a project is called
abbrev pub entered : Place → Worlds → Worlds
entered project worlds = rescoped (enter project.«module») (changed (set_place project.dir) worlds)

-- the text of a step in the directory of a project; the same, and then all is undone; and so where it is one of a project
abbrev pub text_placed_at : Place → Job → What Kept StepAnswer
text_placed_at project job = λ setting s. step_text setting job (with_world (set_place project.dir) s)

abbrev pub text_in_at : Place → Job → What Kept StepAnswer
text_in_at project job = λ setting s. text_in setting project job s

abbrev pub text_of_at : Option Place → Job → What Kept StepAnswer
text_of_at project job = λ setting s. text_of setting project job s
