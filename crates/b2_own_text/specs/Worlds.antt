-- What a loaded project's own text answers, by evaluation in the worlds that loading left.
use Rattle.std.specs.Prelude.{ℕ, List, [], ◌∷◌, Option, Some, None, slice_get}
use Rattle.std.specs.List.{find}
use Rattle.std.specs.Option.{option_map}
use Rattle.std.specs.Str.{bytes_eq}
use Rattle.b2_host.specs.Disks.{Disk}
use Rattle.b2_evaluator.specs.Answers.{Answers}
use Rattle.b2_declared.specs.declared.place.Place.{Place}
use Rattle.jam_journal.specs.Tables.{Text}
use Rattle.jam_journal.specs.Scopes.{Value}
use Rattle.jam_scope.specs.Changes.{set_place}
use Rattle.jam_scope.specs.Lines.{find_rule}
use Rattle.jam_scope.specs.Rules.{Rule}
use Rattle.jam_scope.specs.Worlds.{Worlds}
use Rattle.jam_meaning.specs.Faults.{Spot, Fault, unknown_rule}
use Rattle.jam_meaning.specs.Outcomes.{Outcome, gives, faults, fault_at, in_module}
use Rattle.jam_meaning.specs.Rolled.{Job, StepAnswer, in_copy, call_rolled, step_text}
use Rattle.jam_meaning.specs.Settings.{Setting}
use Rattle.jam_meaning.specs.States.{State, with_world}
use Rattle.jam_natives.specs.Keeping.{Kept}
use Rattle.jam_effects.specs.declared.fault.EvalFault.{EvalFault}
use Rattle.b2_own_text.specs.Faults.{answer_of}
use Rattle.b2_own_text.specs.DiskViews.{setting_of}
use Rattle.b2_own_text.specs.Turns.{turns}

-- An evaluation begins in these worlds with all its turns. Nothing is recorded: what is recorded decides nothing, and while a
-- mark stands, nothing is added to it.
abbrev pub state_in : Worlds → State Kept
state_in worlds = record { worlds = worlds; left = turns; kept = record { decls = []; echoes = [] } }

-- a fault that occurs while no statement runs has no path, and stands at this spot
abbrev pub fault_from : Spot → Text → Fault → Fault
fault_from spot [] fault = record fault { spot = spot }
fault_from spot (byte ∷ bytes) fault = fault

abbrev pub placed : {A : Type 0} → Spot → Outcome Kept A → Outcome Kept A
placed spot (gives value s) = gives value s
placed spot (faults fault s) = faults (fault_from spot fault.spot.path fault) s

-- the project whose module this is
abbrev pub with_module : Text → List Place → Option Place
with_module owner projects = find (λ (project : Place). bytes_eq project.«module» owner) projects

module _ (setting : Setting Kept) where
  -- a rule of this name is called with one list, if there is one
  abbrev pub call_if : Option Rule → Spot → Text → List Text → State Kept → Outcome Kept Value
  call_if None spot name properties s = fault_at spot (unknown_rule name) s
  call_if (Some rule) spot name properties s = placed spot (call_rolled setting name (properties ∷ []) s)

  abbrev pub call_found : Spot → Text → List Text → State Kept → Outcome Kept Value
  call_found spot name properties s = call_if (find_rule name s.worlds.now) spot name properties s

  -- It is looked for and called in the module of its project, with the project's directory as the place. All that this changes is
  -- undone.
  abbrev pub returned_in : Place → Text → ℕ → List Text → State Kept → Outcome Kept Value
  returned_in project name line properties s =
      in_copy (λ s₁. in_module project.«module» (λ s₂. call_found (record { path = project.file; line = line }) name properties s₂)
      (with_world (set_place project.dir) s₁)) s

  -- where there is no such project, nothing is returned
  abbrev pub returned_of : Option Place → Text → ℕ → List Text → State Kept → Outcome Kept Value
  returned_of None name line properties s = gives [] s
  returned_of (Some project) name line properties s = returned_in project name line properties s

  -- The text of a step is made with its project's directory as the place, which is taken back with all else.
  abbrev pub text_in : Place → Job → State Kept → Outcome Kept StepAnswer
  text_in project job s = in_copy (λ s₁. step_text setting job (with_world (set_place project.dir) s₁)) s

  -- where its module is that of no project, the place stays
  abbrev pub text_of : Option Place → Job → State Kept → Outcome Kept StepAnswer
  text_of None job s = step_text setting job s
  text_of (Some project) job s = text_in project job s

  -- the answers of these projects in these worlds
  abbrev pub answers_in : List Place → Worlds → Answers EvalFault
  answers_in projects worlds = record {
    returned = λ project name line properties. answer_of (returned_of (slice_get projects project) name line properties (state_in worlds));
    step_text = λ job. answer_of (text_of (with_module job.owner projects) job (state_in worlds));
  }

-- they are told where the files are visible
abbrev pub told_in : List Place → Worlds → Option Disk → Option (Answers EvalFault)
told_in projects worlds = option_map (λ disk. answers_in (setting_of disk) projects worlds)
