-- What a project's own text answers, over two settings that show the same outside its output roots.
use Rattle.std.proofs.Common.{◌≡◌, ℕ, true, List, [], ◌∷◌, Option, Some, None, Result, slice_get, refl, ap, ap₂, ◌∙◌}
use std.Path.{fun_ext}
use Rattle.b2_evaluator.specs.Answers.{Answers}
use Rattle.b2_host.specs.Disks.{Folder}
use Rattle.b2_declared.specs.declared.place.Place.{Place}
use Rattle.jam_journal.specs.Tables.{Text}
use Rattle.jam_journal.specs.Scopes.{Value, enter}
use Rattle.jam_scope.specs.Worlds.{Worlds}
use Rattle.jam_scope.specs.Changes.{mark, set_place}
use Rattle.jam_scope.specs.Lines.{find_rule, actions_place}
use Rattle.jam_scope.specs.Rules.{Rule}
use Rattle.jam_meaning.specs.Eval.{run_call}
use Rattle.jam_meaning.specs.Faults.{Spot}
use Rattle.jam_meaning.specs.Kept.{Ends}
use Rattle.jam_meaning.specs.Outcomes.{Outcome, gives, faults, then_do, close_frame}
use Rattle.jam_meaning.specs.Rolled.{Job, StepAnswer, nowhere, step_open, back_to, actions_text, call_rolled, rule_if, job_spot, in_step, step_text}
use Rattle.jam_meaning.specs.Settings.{Reading, Setting}
use Rattle.jam_meaning.specs.States.{State, with_world, with_worlds, with_scopes}
use Rattle.jam_meaning.proofs.KeptByEval.{run_call_keeps}
use Rattle.jam_effects.specs.declared.fault.EvalFault.{EvalFault}
use Rattle.jam_natives.specs.Keeping.{Kept}
use Rattle.jam_natives.specs.Rows.{jam_meaning}
use Rattle.b2_own_text.specs.Faults.{answer_of}
use Rattle.b2_own_text.specs.Worlds.{state_in, placed, with_module, call_if, call_found, returned_in, returned_of, text_in, text_of, answers_in}
use Rattle.jam_source_laws.specs.Sources.{over, EndsIn, ShowSame, RootsStay}
use Rattle.jam_source_laws.proofs.EvaluationBySources.{run_call_agrees}
use Rattle.jam_source_laws.proofs.RootsStay.{roots_kept}

module _ (roots : List Text) (setting : Setting Kept) (folder : Folder) (names : Text → List Text) (reading : Text → Reading)
    (natives : setting.natives ≡ jam_meaning) (show : ShowSame roots setting (over setting folder names reading)) where
  abbrev two : Setting Kept
  two = over setting folder names reading

  -- no output root can be added, and these are the roots
  abbrev IsSettled : State Kept → Type 0
  IsSettled s = (s.worlds.now.frozen ≡ true) × (s.worlds.now.roots ≡ roots)

  ends_settled : {A : Type 0} (s : State Kept) (o : Outcome Kept A) → Ends RootsStay s o → IsSettled s → EndsIn roots o
  ends_settled s (gives a later) stays settled = λ frozen. (stays.0 settled.0).1 ∙ settled.1
  ends_settled s (faults fault later) stays settled = λ frozen. (stays.0 settled.0).1 ∙ settled.1

  call_same : (name : Text) (lists : List Value) (spot : Spot) (s : State Kept) → IsSettled s → run_call setting name lists spot s ≡ run_call two name lists spot s
  call_same name lists spot s settled =
      (run_call_agrees roots setting folder names reading show name lists spot s
      (ends_settled s (run_call setting name lists spot s) (run_call_keeps setting RootsStay RootsStay (roots_kept setting natives) name lists spot s) settled)).1

  rolled_same : (name : Text) (lists : List Value) (s : State Kept) → IsSettled s → call_rolled setting name lists s ≡ call_rolled two name lists s
  rolled_same name lists s settled = ap (back_to s.worlds) (call_same name lists nowhere (with_worlds mark s) settled)

  -- ---- rules of projects

  if_same : (rule : Option Rule) (spot : Spot) (name : Text) (properties : List Text) (s : State Kept) → IsSettled s → call_if setting rule spot name properties s ≡ call_if two rule spot name properties s
  if_same None spot name properties s settled = refl
  if_same (Some rule) spot name properties s settled = ap (placed spot) (rolled_same name (properties ∷ []) s settled)

  found_same : (spot : Spot) (name : Text) (properties : List Text) (s : State Kept) → IsSettled s → call_found setting spot name properties s ≡ call_found two spot name properties s
  found_same spot name properties s settled = if_same (find_rule name s.worlds.now) spot name properties s settled

  returned_same : (project : Place) (name : Text) (line : ℕ) (properties : List Text) (s : State Kept) → IsSettled s → returned_in setting project name line properties s ≡ returned_in two project name line properties s
  returned_same project name line properties s settled =
      ap (λ o. back_to s.worlds (close_frame o))
      (found_same (record { path = project.file; line = line }) name properties (with_scopes (enter project.«module») (with_world (set_place project.dir) (with_worlds mark s))) settled)

  returned_of_same : (project : Option Place) (name : Text) (line : ℕ) (properties : List Text) (s : State Kept) → IsSettled s → returned_of setting project name line properties s ≡ returned_of two project name line properties s
  returned_of_same None name line properties s settled = refl
  returned_of_same (Some project) name line properties s settled = returned_same project name line properties s settled

  -- ---- texts of steps

  rule_same : (rule : Option Rule) (job : Job) (spot : Spot) (s : State Kept) → IsSettled s → rule_if setting rule job spot s ≡ rule_if two rule job spot s
  rule_same None job spot s settled = refl
  rule_same (Some rule) job spot s settled = call_same job.name (job.outs ∷ job.ins ∷ job.props ∷ []) spot s settled

  in_same : (job : Job) (s : State Kept) → IsSettled s → in_step setting job s ≡ in_step two job s
  in_same job s settled =
      ap (λ o. then_do o (λ value. λ s₁. actions_text job (actions_place job.name s₁.worlds.now) (job_spot setting job) s₁)) (rule_same (find_rule job.name s.worlds.now) job (job_spot setting job) s settled)

  text_same : (job : Job) (s : State Kept) → IsSettled s → step_text setting job s ≡ step_text two job s
  text_same job s settled = ap (λ o. back_to s.worlds (close_frame o)) (in_same job (with_scopes (enter job.owner) (with_world (step_open job) (with_worlds mark s))) settled)

  text_in_same : (project : Place) (job : Job) (s : State Kept) → IsSettled s → text_in setting project job s ≡ text_in two project job s
  text_in_same project job s settled = ap (back_to s.worlds) (text_same job (with_world (set_place project.dir) (with_worlds mark s)) settled)

  text_of_same : (project : Option Place) (job : Job) (s : State Kept) → IsSettled s → text_of setting project job s ≡ text_of two project job s
  text_of_same None job s settled = text_same job s settled
  text_of_same (Some project) job s settled = text_in_same project job s settled

  -- ---- all answers

  pub answers_same : (projects : List Place) (worlds : Worlds) → worlds.now.frozen ≡ true → worlds.now.roots ≡ roots → answers_in setting projects worlds ≡ answers_in two projects worlds
  answers_same projects worlds frozen is =
      let put : (ℕ → Text → ℕ → List Text → Result (List Text) EvalFault) → (Job → Result StepAnswer EvalFault) → Answers EvalFault = λ returned texts. record { returned = returned; step_text = texts } in
      ap₂ put
      (fun_ext λ project. fun_ext λ name. fun_ext λ line. fun_ext λ properties.
      ap answer_of (returned_of_same (slice_get projects project) name line properties (state_in worlds) (frozen, is)))
      (fun_ext λ job. ap answer_of (text_of_same (with_module job.owner projects) job (state_in worlds) (frozen, is)))
