-- The texts of steps.
use Rattle.std.specs.Prelude.{◌≡◌, ◌⊎◌, List, Option, Some, None, Result, Ok, Err, if◌then◌else◌}
use Rattle.std.specs.FinMap as map
use Rattle.jam_journal.specs.Tables.{Text, Key}
use Rattle.jam_journal.specs.Scopes.{Value, look}
use Rattle.b2_base.specs.declared.expand_fault.ExpandFault.{ExpandFault}
use Rattle.jam_scope.specs.Rules.{Actions}
use Rattle.jam_scope.specs.Worlds.{World}
use Rattle.jam_scope.specs.Lines.{actions_place}
use Rattle.jam_scope.specs.declared.notes.StepNotes.{StepNotes}
use Rattle.jam_expand.specs.Bodies.{body_expansion}
use Rattle.jam_meaning.specs.Faults.{Spot, Cause, unknown_rule, expand}
use Rattle.jam_meaning.specs.Rolled.{Job, StepAnswer, is_text, own_at, body_names, noted}
use Rattle.jam_effects.specs.declared.fault.EvalFault.{EvalFault}
use Rattle.jam_effects.specs.declared.fault.EvalFault.TheVariants as faults
use Rattle.jam_effects.specs.Causes.{IsFault}
use Rattle.jam_meaning.specs.declared.step.StepText.{StepText}
use Rattle.jam_meaning.specs.StepJobs.{step_answer}

-- what a name stands for in a body, where the newest frame is one of the module of the actions and binds nothing
abbrev pub or_found : Option Value → Text → World → Value
or_found None name w = look w.scopes name
or_found (Some value) name w = value

abbrev pub names_here : List Text → List Text → World → Text → Value
names_here outs ins w name =
    if is_text 60 49 name then outs else (if is_text 62 50 name then ins else or_found (own_at outs name w) name w)

-- the text of the actions of a step's name in a world, or why there is none
abbrev pub texted : Option StepNotes → Result Text ExpandFault → Result StepAnswer Cause
texted notes (Ok text) = Ok (noted text notes)
texted notes (Err fault) = Err (expand fault)

abbrev pub text_of_body : Job → Text → World → Option Actions → Result StepAnswer Cause
text_of_body job owner w None = Err (unknown_rule job.name)
text_of_body job owner w (Some actions) = texted w.step (body_expansion (body_names job.outs job.ins job.outs owner w) actions.text)

abbrev pub text_of_actions : Job → World → Option Key → Result StepAnswer Cause
text_of_actions job w None = Err (unknown_rule job.name)
text_of_actions job w (Some at) = text_of_body job at.0 w (map.get w.actions at)

abbrev pub IsStepText : Job → Spot → World → Result StepText EvalFault → Type 0
IsStepText job spot w (Ok step) = text_of_actions job w (actions_place job.name w) ≡ Ok (step_answer step)
IsStepText job spot w (Err e) = (e ≡ faults.OutOfMemory) ⊎ ((cause : Cause) × (text_of_actions job w (actions_place job.name w) ≡ Err cause) × IsFault spot cause e)
