-- To take a turn leaves one less and goes on, or is a fault where none is left: for calls, rounds and statements.
use Rattle.std.proofs.Common.{◌≡◌, ◌≤◌, ◌+◌, ℕ, zero, suc, Option, None, Some, Result, Err, refl, sym, ap, ◌∙◌, subst, arith}
use Rattle.b2_host.specs.OutsideLaws.{keeps_same}
use Rattle.jam_journal.specs.Tables.{Text}
use Rattle.jam_meaning.specs.Faults.{Spot, turns}
use Rattle.jam_meaning.specs.States.{State}
use Rattle.jam_meaning.specs.Settings.{Setting}
use Rattle.jam_meaning.specs.Outcomes.{Outcome, by_turns, take_turn, fault_at}
use Rattle.jam_effects.specs.declared.fault.EvalFault.{EvalFault}
use Rattle.jam_effects.specs.Machines.{Machine, state_of}
use Rattle.jam_effects.specs.Causes.{IsFault, refused_of}
use Rattle.jam_effects.specs.Does.{Agrees, DoesInCall, Does, Leads}
use Rattle.jam_meaning.specs.Refused.{Refuses, TookTurn}
use Rattle.jam_effects.proofs.WhatEachKeepsAllKeep.{stays_then, setting_after}
use Rattle.jam_effects.proofs.OrderedCallsDoAsDefined.{fault_now}

-- the turn of a call, and the call in it
took_one : {A : Type 0} (result : Result A EvalFault) (before left after : ℕ) → before ≡ left + 1 → after ≤ left → TookTurn (refused_of result) before after
took_one result before left after e fell = go (refused_of result)
  where
    go : (text : Option Text) → TookTurn text before after
    go None = tt
    go (Some text) = omega arith

by_suc : (n left : ℕ) → n ≡ left + 1 → n ≡ suc left
by_suc n left e = omega (arith, e)

module _ {R : Type 0} where
  by_one : {A : Type 0} (n left budget : ℕ) (spot : Spot) (s : State R) (next : State R → Outcome R A) → n ≡ left + 1 → by_turns n budget spot s next ≡ next (record s { left = left })
  by_one zero left budget spot s next e = absurd (omega arith)
  by_one (suc n) left budget spot s next e = let same : n ≡ left = omega arith in ap (λ k. next (record s { left = k })) same

  -- a turn was left
  pub turn_leads : {A : Type 0} (spot : Spot) (next : Setting R → State R → Outcome R A) (m : Machine R) (left : ℕ) → m.left ≡ left + 1
      → Leads (λ setting s. take_turn setting.budget spot s (next setting)) next m (record m { left = left })
  turn_leads spot next m left e = record {
    told = λ setting is none. by_one m.left left setting.budget spot (state_of m) (next setting) e;
    stays = record {
      turns = omega arith;
      budget = refl;
      meaning = refl;
      frames = refl;
      outer = refl;
      marks = refl;
      step = refl;
      disk = refl;
      children = refl;
      keeps = keeps_same m.outside m.outside refl;
    };
    counts = refl;
  }

  -- none was left
  pub turn_faults : {A B : Type 0} (view : A → B) (spot : Spot) (next : Setting R → State R → Outcome R B) (m : Machine R) (e : EvalFault) → m.left ≡ 0 → IsFault spot (turns m.budget) e
      → Does view (λ setting s. take_turn setting.budget spot s (next setting)) m m (Err e)
  turn_faults view spot next m e none h =
      fault_now view (λ setting s. take_turn setting.budget spot s (next setting)) m spot (turns m.budget) e h refl
      (λ setting is. ap (λ n. by_turns n setting.budget spot (state_of m) (next setting)) none ∙ ap (λ b. fault_at spot (turns b) (state_of m)) (sym is.budget))

  pub turn_call : {A B : Type 0} (view : A → B) (spot : Spot) (next : Setting R → State R → Outcome R B) (m n : Machine R) (left : ℕ) (result : Result A EvalFault) → m.left ≡ left + 1
      → DoesInCall view next (record m { left = left }) n result → Does view (λ setting s. take_turn setting.budget spot s (next setting)) m n result
  turn_call view spot next m n left result e h = (let turn = turn_leads spot next m left e in record {
    told = λ setting is refuses.
        subst (λ o. Agrees setting view result o (state_of n)) (sym (by_one m.left left setting.budget spot (state_of m) (next setting) e))
        (h.told setting (setting_after setting m (record m { left = left }) turn.stays is) (subst (λ k. Refuses setting.refused k n.left (refused_of result)) (by_suc m.left left e) refuses));
    stays = stays_then m (record m { left = left }) n turn.stays h.stays;
    counts = h.counts;
    whole = h.whole;
    took = took_one result m.left left n.left e h.stays.turns;
  })

  -- the machine after a turn was taken
  pub turned : (m t : Machine R) → t.budget ≡ m.budget → t ≡ record m { left = t.left; budget = t.budget } → t ≡ record m { left = t.left }
  turned m t e is = is ∙ ap (λ b. record m { left = t.left; budget = b }) e
