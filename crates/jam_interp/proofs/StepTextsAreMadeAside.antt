-- What the text of a step does, exit by exit.
use Rattle.std.proofs.Common.{◌≡◌, inl, inr, ◌+◌, ℕ, suc, add-one, List, length, Option, Some, None, Result, Ok, Err, refl, sym, ap, ◌∙◌, subst, arith}
use Rattle.std.specs.FinMap as map
use Rattle.b2_base.specs.declared.expand_fault.ExpandFault.{ExpandFault}
use Rattle.b2_host.specs.OutsideLaws.{keeps_same}
use Rattle.jam_expand.specs.Bodies.{body_expansion}
use Rattle.jam_journal.specs.Tables.{Text, Key}
use Rattle.jam_journal.specs.Scopes.{Value, enter}
use Rattle.jam_scope.specs.Rules.{Actions}
use Rattle.jam_scope.specs.Worlds.{World, Worlds}
use Rattle.jam_scope.specs.Changes.{changed, rescoped, open_step, mark, roll_back, newest_of}
use Rattle.jam_scope.specs.Lines.{actions_place, find_rule}
use Rattle.jam_meaning.specs.Faults.{Spot, Cause, unknown_rule, expand, refused_in}
use Rattle.jam_meaning.specs.Settings.{Setting}
use Rattle.jam_meaning.specs.States.{State}
use Rattle.jam_meaning.specs.Outcomes.{Outcome, gives, faults, then_do, fault_at, close_frame}
use Rattle.jam_meaning.specs.Rolled.{Job, StepAnswer, step_open, body_names, back_to, text_of, body_text, actions_text, rule_if}
use Rattle.jam_effects.specs.declared.at.At.{At}
use Rattle.jam_meaning.specs.declared.step.StepText.{StepText}
use Rattle.jam_effects.specs.declared.fault.EvalFault.{EvalFault}
use Rattle.jam_effects.specs.declared.fault.EvalFault.TheVariants as fault
use Rattle.jam_effects.specs.Spots.{spot_of}
use Rattle.jam_effects.specs.Machines.{Machine, state_of}
use Rattle.jam_effects.specs.Does.{Agrees, Tells, Does, DoesAside}
use Rattle.jam_meaning.specs.StepJobs.{step_answer}
use Rattle.jam_effects.specs.Rolling.{text_of_body, text_of_actions, texted, IsStepText}
use Rattle.jam_effects.specs.Views.{value, What}
use Rattle.jam_interp.specs.FunctionParts.{rule_if_at, in_step_at, step_text_at}
use Rattle.jam_meaning.specs.Kept.{Begins}
use Rattle.jam_meaning.proofs.RecordsOnlyGrow.{same_begins, fault_begins, close_begins, back_begins}
use Rattle.jam_effects.proofs.OrderedCallsDoAsDefined.{err_then, ok_then, led, value_now, fault_now, out_of_memory}
use Rattle.jam_effects.proofs.WhatEachKeepsAllKeep.{stays_same}

-- what has no text is no refusal of a pattern
abbrev failed : Cause → Result StepAnswer Cause
failed cause = Err cause

same_cause : (a b : Cause) → failed a ≡ failed b → a ≡ b
same_cause a b e = cc

none_texted : (job : Job) (w : World) (answer : Result Text ExpandFault) (cause : Cause) → texted w.step answer ≡ Err cause → refused_in cause ≡ None
none_texted job w (Ok text) cause e = cc
none_texted job w (Err f) cause e = ap refused_in (sym (same_cause (expand f) cause e))

none_of_body : (job : Job) (owner : Text) (w : World) (body : Option Actions) (cause : Cause) → text_of_body job owner w body ≡ Err cause → refused_in cause ≡ None
none_of_body job owner w None cause e = ap refused_in (sym (same_cause (unknown_rule job.name) cause e))
none_of_body job owner w (Some actions) cause e = none_texted job w (body_expansion (body_names job.outs job.ins job.outs owner w) actions.text) cause e

none_refused : (job : Job) (w : World) (at : Option Key) (cause : Cause) → text_of_actions job w at ≡ Err cause → refused_in cause ≡ None
none_refused job w None cause e = ap refused_in (sym (same_cause (unknown_rule job.name) cause e))
none_refused job w (Some key) cause e = none_of_body job key.0 w (map.get w.actions key) cause e

module _ {R : Type 0} where
  abbrev pub by_text : Result StepAnswer Cause → Spot → State R → Outcome R StepAnswer
  by_text (Ok answer) spot s = gives answer s
  by_text (Err cause) spot s = fault_at spot cause s

  text_so : (answer : Result Text ExpandFault) (spot : Spot) (s : State R) → text_of answer spot s ≡ by_text (texted s.worlds.now.step answer) spot s
  text_so (Ok text) spot s = refl
  text_so (Err f) spot s = refl

  body_so : (job : Job) (owner : Text) (body : Option Actions) (spot : Spot) (s : State R) → body_text job body owner spot s ≡ by_text (text_of_body job owner s.worlds.now body) spot s
  body_so job owner None spot s = refl
  body_so job owner (Some actions) spot s = text_so (body_expansion (body_names job.outs job.ins job.outs owner s.worlds.now) actions.text) spot s

  actions_so : (job : Job) (at : Option Key) (spot : Spot) (s : State R) → actions_text job at spot s ≡ by_text (text_of_actions job s.worlds.now at) spot s
  actions_so job None spot s = refl
  actions_so job (Some key) spot s = body_so job key.0 (map.get s.worlds.now.actions key) spot s

  abbrev pub text_at : Job → Spot → What R StepAnswer
  text_at job spot = λ setting s. actions_text job (actions_place job.name s.worlds.now) spot s

  by_text_begins : (setting : Setting R) (answer : Result StepAnswer Cause) (spot : Spot) (s : State R) → Begins setting s (by_text answer spot s)
  by_text_begins setting (Ok answer) spot s = same_begins setting answer s
  by_text_begins setting (Err cause) spot s = fault_begins setting StepAnswer spot cause s

  text_begins : (job : Job) (spot : Spot) (setting : Setting R) (s : State R) → Begins setting s (text_at job spot setting s)
  text_begins job spot setting s =
      subst (λ o. Begins setting s o) (sym (actions_so job (actions_place job.name s.worlds.now) spot s)) (by_text_begins setting (text_of_actions job s.worlds.now (actions_place job.name s.worlds.now)) spot s)

  -- the text of the actions, or its fault
  text_does : (job : Job) (spot : Spot) (m : Machine R) (result : Result StepText EvalFault) → IsStepText job spot m.worlds.now result → Does step_answer (text_at job spot) m m result
  text_does job spot m (Ok text) h =
      value_now step_answer (text_at job spot) m text
      (λ setting right. actions_so job (actions_place job.name m.worlds.now) spot (state_of m) ∙ ap (λ r. by_text r spot (state_of m)) h)
  text_does job spot m (Err e) (inl memory) =
      subst (λ x. Does step_answer (text_at job spot) m m (Err x)) (sym memory) (out_of_memory step_answer (text_at job spot) m m (stays_same m))
  text_does job spot m (Err e) (inr (cause, is, h)) =
      fault_now step_answer (text_at job spot) m spot cause e h (none_refused job m.worlds.now (actions_place job.name m.worlds.now) cause is)
      (λ setting right. actions_so job (actions_place job.name m.worlds.now) spot (state_of m) ∙ ap (λ r. by_text r spot (state_of m)) is)

  -- a step after its rule, by what its rule did
  abbrev pub step_by : Job → Spot → What R StepAnswer
  step_by job spot = λ setting s. then_do (rule_if setting (find_rule job.name s.worlds.now) job spot s) (λ v. λ s₁. actions_text job (actions_place job.name s₁.worlds.now) spot s₁)

  step_fails : (job : Job) (at : At) (m n : Machine R) (e : EvalFault) → Does value (rule_if_at job at) m n (Err e) → Does step_answer (step_by job (spot_of at)) m n (Err e)
  step_fails job at m n e h =
      err_then value step_answer (rule_if_at job at) (λ setting v s. text_at job (spot_of at) setting s) m n e (λ setting v later. text_begins job (spot_of at) setting later) h

  step_texts : (job : Job) (at : At) (m n : Machine R) (v : Value) (result : Result StepText EvalFault) → Does value (rule_if_at job at) m n (Ok v) → IsStepText job (spot_of at) n.worlds.now result → Does step_answer (step_by job (spot_of at)) m n result
  step_texts job at m n v result one two =
      led step_answer (step_by job (spot_of at)) (text_at job (spot_of at)) m n n result
      (ok_then value (rule_if_at job at) (λ setting u s. text_at job (spot_of at) setting s) m n v one) (text_does job (spot_of at) n result two)

  -- ---- aside, in a world of which the marks alone are told

  aside_agrees : {A B : Type 0} (setting : Setting R) (view : A → B) (result : Result A EvalFault) (o : Outcome R B) (s : State R) (ws : Worlds) → Agrees setting view result o s
      → Agrees setting view result (back_to ws (close_frame o)) (record s { worlds = ws })
  aside_agrees setting view (Ok v) o s ws h = ap (λ p. back_to ws (close_frame p)) h
  aside_agrees setting view (Err fault.Host) o s ws h = back_begins setting ws (close_frame o) s (close_begins setting o s h)
  aside_agrees setting view (Err fault.OutOfMemory) o s ws h = tt
  aside_agrees setting view (Err (fault.At path line why)) o s ws h = ap (λ p. back_to ws (close_frame p)) h

  aside_does : (job : Job) (spot : Spot) (m : Machine R) (opened : Worlds) (n : Machine R) (ws : Worlds) (result : Result StepText EvalFault)
      → record { path = job.path; line = job.line } ≡ spot → opened ≡ rescoped (enter job.owner) (changed (step_open job) m.worlds) → ws.marked ≡ n.worlds.marked
      → Does step_answer (step_by job spot) (record m { worlds = opened }) n result → DoesAside step_answer (in_step_at job) m (record n { worlds = ws }) result
  aside_does job spot m opened n ws result there is marks h = record {
    told = λ setting right refuses.
        aside_agrees setting step_answer result (step_by job (record { path = job.path; line = job.line }) setting (state_of (record m { worlds = rescoped (enter job.owner) (changed (step_open job) m.worlds) }))) (state_of n) m.worlds
        (subst (λ w. Agrees setting step_answer result (step_by job (record { path = job.path; line = job.line }) setting (state_of (record m { worlds = w }))) (state_of n)) is
        (subst (λ p. Agrees setting step_answer result (step_by job p setting (state_of (record m { worlds = opened }))) (state_of n)) (sym there)
        (h.told setting (record { budget = right.budget; natives = right.natives; folder = right.folder; right = right.right }) refuses)));
    turns = h.stays.turns;
    budget = h.stays.budget;
    meaning = h.stays.meaning;
    marks = marks ∙ h.stays.marks ∙ ap (λ w. w.marked) is;
    disk = h.stays.disk;
    children = h.stays.children;
    keeps = h.stays.keeps;
    counts = h.counts;
    whole = h.whole;
    took = h.took;
  }

  -- memory runs out before the rule is called
  pub aside_memory : {A B : Type 0} (view : A → B) (what : What R B) (m : Machine R) (ws : Worlds) → ws.marked ≡ m.worlds.marked → DoesAside view what m (record m { worlds = ws }) (Err fault.OutOfMemory)
  aside_memory view what m ws marks = record {
    told = λ setting right refuses. tt;
    turns = omega arith;
    budget = refl;
    meaning = refl;
    marks = marks;
    disk = refl;
    children = refl;
    keeps = keeps_same m.outside m.outside refl;
    counts = tt;
    whole = tt;
    took = tt;
  }

  pub aside_ends : {A B : Type 0} (view : A → B) (what : What R B) (m : Machine R) (ws : Worlds) (e : EvalFault) → ws.marked ≡ m.worlds.marked → e ≡ fault.OutOfMemory → DoesAside view what m (record m { worlds = ws }) (Err e)
  aside_ends view what m ws e marks is = subst (λ f. DoesAside view what m (record m { worlds = ws }) (Err f)) (sym is) (aside_memory view what m ws marks)

  pub aside_fails : (job : Job) (at : At) (m : Machine R) (opened : Worlds) (n : Machine R) (e : EvalFault) → spot_of at ≡ record { path = job.path; line = job.line } → opened ≡ rescoped (enter job.owner) (changed (step_open job) m.worlds)
      → Does value (rule_if_at job at) (record m { worlds = opened }) n (Err e) → DoesAside step_answer (in_step_at job) m n (Err e)
  aside_fails job at m opened n e there is h = aside_does job (spot_of at) m opened n n.worlds (Err e) (sym there) is refl (step_fails job at (record m { worlds = opened }) n e h)

  pub aside_texts : (job : Job) (at : At) (m : Machine R) (opened : Worlds) (n : Machine R) (ws : Worlds) (v : Value) (result : Result StepText EvalFault) → spot_of at ≡ record { path = job.path; line = job.line }
      → opened ≡ rescoped (enter job.owner) (changed (step_open job) m.worlds) → Does value (rule_if_at job at) (record m { worlds = opened }) n (Ok v) → ws.marked ≡ n.worlds.marked → IsStepText job (spot_of at) n.worlds.now result
      → DoesAside step_answer (in_step_at job) m (record n { worlds = ws }) result
  aside_texts job at m opened n ws v result there is h marks text =
      aside_does job (spot_of at) m opened n ws result (sym there) is marks (step_texts job at (record m { worlds = opened }) n v result h text)

  -- ---- the world of entry

  back_twice : {B : Type 0} (first last : Worlds) (o : Outcome R B) → back_to last (back_to first o) ≡ back_to last o
  back_twice first last (gives v s) = refl
  back_twice first last (faults f s) = refl

  back_agrees : {A B : Type 0} (setting : Setting R) (view : A → B) (result : Result A EvalFault) (o : Outcome R B) (s : State R) (first last : Worlds) → Agrees setting view result (back_to first o) (record s { worlds = first })
      → Agrees setting view result (back_to last o) (record s { worlds = last })
  back_agrees setting view (Ok v) o s first last h = sym (back_twice first last o) ∙ ap (back_to last) h
  back_agrees setting view (Err fault.Host) o s first last h =
      subst (λ p. Begins setting s p) (back_twice first last o) (back_begins setting last (back_to first o) s h)
  back_agrees setting view (Err fault.OutOfMemory) o s first last h = tt
  back_agrees setting view (Err (fault.At path line why)) o s first last h = sym (back_twice first last o) ∙ ap (back_to last) h

  pub step_tells : (job : Job) (m : Machine R) (marked : Worlds) (n : Machine R) (result : Result StepText EvalFault) → marked ≡ mark m.worlds
      → DoesAside step_answer (in_step_at job) (record m { worlds = marked }) n result → Tells step_answer (step_text_at job) m (record n { worlds = m.worlds }) result
  step_tells job m marked n result is h setting right refuses =
      back_agrees setting step_answer result (in_step_at job setting (state_of (record m { worlds = mark m.worlds }))) (state_of n) (mark m.worlds) m.worlds
      (subst (λ w. Agrees setting step_answer result (back_to w (in_step_at job setting (state_of (record m { worlds = w })))) (record (state_of n) { worlds = w })) is
      (h.told setting (record { budget = right.budget; natives = right.natives; folder = right.folder; right = right.right }) refuses))

-- a frame of the step's module, in a world with the step open
pub step_opened : (job : Job) (before stepped opened : Worlds) (outs ins : List Text) (owner : Text) → outs ≡ job.outs → ins ≡ job.ins → owner ≡ job.owner → stepped ≡ changed (open_step outs ins) before → opened ≡ rescoped (enter owner) stepped
    → opened ≡ rescoped (enter job.owner) (changed (step_open job) before)
step_opened job before stepped opened outs ins owner first second home is e =
    e ∙ ap (λ n. rescoped (enter n) stepped) home ∙ ap (rescoped (enter job.owner)) (is ∙ ap (λ texts. changed (open_step texts ins) before) first ∙ ap (λ texts. changed (open_step job.outs texts) before) second)

-- the world that was marked stands again
pub back_again : (ws marked after last : Worlds) → marked ≡ mark ws → after.marked ≡ marked.marked → last ≡ roll_back after → last ≡ ws
back_again ws marked after last is same e = e ∙ ap (newest_of after) (same ∙ ap (λ w. w.marked) is)

-- it may be rolled back to the mark
pub newest_again : (ws marked after : Worlds) (count : ℕ) → marked ≡ mark ws → after.marked ≡ marked.marked → count ≡ length ws.marked → length after.marked ≡ count + 1
newest_again ws marked after count is same e = ap length (same ∙ ap (λ w. w.marked) is) ∙ ap suc (sym e) ∙ sym (add-one count)

module _ {R : Type 0} where
  pub step_rolls : (job : Job) (m : Machine R) (marked : Worlds) (n : Machine R) (last : Worlds) (result : Result StepText EvalFault) → marked ≡ mark m.worlds
      → DoesAside step_answer (in_step_at job) (record m { worlds = marked }) n result → last ≡ roll_back n.worlds → Tells step_answer (step_text_at job) m (record n { worlds = last }) result
  step_rolls job m marked n last result is h rolled =
      subst (λ w. Tells step_answer (step_text_at job) m (record n { worlds = w }) result) (sym (back_again m.worlds marked n.worlds last is h.marks rolled)) (step_tells job m marked n result is h)
