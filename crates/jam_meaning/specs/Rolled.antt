-- Calls and steps that leave the world of entry.
use Rattle.std.specs.Prelude.{ℕ, Bool, false, ◌==◌, ◌||◌, List, [], ◌∷◌, Option, Some, None, Result, Ok, Err, if◌then◌else◌}
use Rattle.std.specs.FinMap as map
use Rattle.b2_base.specs.declared.expand_fault.ExpandFault.{ExpandFault}
use Rattle.jam_expand.specs.Bodies.{body_expansion}
use Rattle.jam_journal.specs.Tables.{Text, Key}
use Rattle.jam_journal.specs.Scopes.{Value, look_in}
use Rattle.jam_meaning.specs.Faults.{Spot, unknown_rule, expand}
use Rattle.jam_scope.specs.declared.notes.StepNotes.{StepNotes}
use Rattle.jam_scope.specs.Rules.{Rule, Actions}
use Rattle.jam_scope.specs.Worlds.{World, Worlds}
use Rattle.jam_scope.specs.Changes.{mark, open_step}
use Rattle.jam_scope.specs.Lines.{find_rule, actions_place}
use Rattle.jam_meaning.specs.States.{State, with_world, with_worlds}
use Rattle.jam_meaning.specs.Settings.{Setting}
use Rattle.jam_meaning.specs.Outcomes.{Outcome, gives, faults, then_do, fault_at, in_module}
use Rattle.jam_meaning.specs.Eval.{run_call}

-- no statement is being run
abbrev pub nowhere : Spot
nowhere = record { path = []; line = 0 }

-- a step whose text is asked for
pub record Job : Type 0 where
  pub name : Text
  pub owner : Text
  pub path : Text
  pub outs : List Text
  pub ins : List Text
  pub props : List Text
  pub line : ℕ

-- the text of a step, and what its rule noted
pub record StepAnswer : Type 0 where
  pub text : Text
  pub depends : List Text
  pub always : Bool
  pub notfile : Bool

abbrev pub step_open : Job → World → World
step_open job = open_step job.outs job.ins

abbrev pub is_text : ℕ → ℕ → Text → Bool
is_text first second [] = false
is_text first second (byte ∷ []) = byte == first || byte == second
is_text first second (byte ∷ next ∷ bytes) = false

-- the own value that the first of some targets has for a name
abbrev pub own_at : List Text → Text → World → Option Value
own_at [] name w = None
own_at (target ∷ targets) name w = map.get w.own (target, name)

abbrev pub or_look : Option Value → Text → Text → World → Value
or_look None owner name w = look_in owner w.scopes name
or_look (Some value) owner name w = value

-- what a name in a body stands for: `<` and `1` (60 and 49) for some texts, `>` and `2` (62 and 50) for others; other names for
-- the own value of the first target, and else for what they are in the module of the actions
abbrev pub body_names : List Text → List Text → List Text → Text → World → Text → Value
body_names outs ins targets owner w name =
    if is_text 60 49 name then outs else (if is_text 62 50 name then ins else or_look (own_at targets name w) owner name w)

abbrev pub noted : Text → Option StepNotes → StepAnswer
noted text None = record { text = text; depends = []; always = false; notfile = false }
noted text (Some step) = record { text = text; depends = step.depends; always = step.always; notfile = step.notfile }

module _ {R : Type 0} where
  -- the worlds are as before, also after a fault
  abbrev pub back_to : {A : Type 0} → Worlds → Outcome R A → Outcome R A
  back_to worlds (gives a s) = gives a (record s { worlds = worlds })
  back_to worlds (faults fault s) = faults fault (record s { worlds = worlds })

  abbrev pub in_copy : {A : Type 0} → (State R → Outcome R A) → State R → Outcome R A
  in_copy act s = back_to s.worlds (act (with_worlds mark s))

  abbrev pub text_of : Result Text ExpandFault → Spot → State R → Outcome R StepAnswer
  text_of (Err fault) spot s = fault_at spot (expand fault) s
  text_of (Ok text) spot s = gives (noted text s.worlds.now.step) s

  -- the text of actions for a step, whose outputs are its targets
  abbrev pub body_text : Job → Option Actions → Text → Spot → State R → Outcome R StepAnswer
  body_text job None owner spot s = fault_at spot (unknown_rule job.name) s
  body_text job (Some actions) owner spot s = text_of (body_expansion (body_names job.outs job.ins job.outs owner s.worlds.now) actions.text) spot s

  -- the text of the actions of the step's name, which are looked up after its rule has run
  abbrev pub actions_text : Job → Option Key → Spot → State R → Outcome R StepAnswer
  actions_text job None spot s = fault_at spot (unknown_rule job.name) s
  actions_text job (Some at) spot s = body_text job (map.get s.worlds.now.actions at) at.0 spot s

module _ {R : Type 0} (setting : Setting R) where
  -- a call whose changes of the world are undone
  abbrev pub call_rolled : Text → List Value → State R → Outcome R Value
  call_rolled name lists s = in_copy (λ s₁. run_call setting name lists nowhere s₁) s

  -- the step's rule, if there is one
  abbrev pub rule_if : Option Rule → Job → Spot → State R → Outcome R Value
  rule_if None job spot s = gives [] s
  rule_if (Some rule) job spot s = run_call setting job.name (job.outs ∷ job.ins ∷ job.props ∷ []) spot s

  abbrev pub job_spot : Job → Spot
  job_spot job = record { path = job.path; line = job.line }

  -- a step: its rule is called in its module with outputs, inputs and properties, and then its text is expanded there
  abbrev pub in_step : Job → State R → Outcome R StepAnswer
  in_step job s =
      then_do (rule_if (find_rule job.name s.worlds.now) job (job_spot job) s) (λ value. λ s₁. actions_text job (actions_place job.name s₁.worlds.now) (job_spot job) s₁)

  abbrev pub step_text : Job → State R → Outcome R StepAnswer
  step_text job s = in_copy (λ s₁. in_module job.owner (λ s₂. in_step job s₂) (with_world (step_open job) s₁)) s
