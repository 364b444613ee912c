-- How calls, one after another, do what is defined.
use Rattle.std.proofs.Common.{◌≡◌, ◌≤◌, ℕ, suc, Bool, true, false, Result, Ok, Err, Option, Some, None, refl, sym, ap, ◌∙◌, subst, arith}
use Rattle.jam_journal.specs.Tables.{Text}
use Rattle.jam_journal.specs.Scopes.{Value}
use Rattle.jam_meaning.specs.Faults.{Spot, Cause, refused_in}
use Rattle.jam_meaning.specs.States.{State}
use Rattle.jam_meaning.specs.Settings.{Setting}
use Rattle.jam_meaning.specs.Kept.{Begins}
use Rattle.jam_meaning.specs.Refused.{Refuses, TookTurn}
use Rattle.jam_meaning.specs.RefusedLaws.{refuses_first, refuses_second}
use Rattle.jam_meaning.specs.Outcomes.{Outcome, gives, Flow, then_do, then_go, either, fault_at}
use Rattle.jam_meaning.proofs.RecordsOnlyGrow.{then_begins, go_begins}
use Rattle.jam_effects.specs.declared.flow.Flow.TheVariants as ways
use Rattle.jam_effects.specs.declared.fault.EvalFault.{EvalFault}
use Rattle.jam_effects.specs.declared.fault.EvalFault.TheVariants as fault
use Rattle.jam_effects.specs.Causes.{IsFault, HoldsNoMemory, refused_by, refused_of}
use Rattle.jam_effects.specs.Machines.{Machine, state_of, IsSettingOf}
use Rattle.b2_host.specs.Outside.{Outside}
use Rattle.jam_effects.specs.Does.{Stays, CountsFault, Agrees, DoesInCall, Does, Leads}
use Rattle.jam_effects.specs.Views.{flow_of}
use Rattle.jam_effects.proofs.WhatEachKeepsAllKeep.{stays_same, stays_then, setting_after, counts_after}

-- a turn that was taken in the second part was taken
took_later : (text : Option Text) (before middle after : ℕ) → middle ≤ before → TookTurn text middle after → TookTurn text before after
took_later None before middle after fell took = tt
took_later (Some text) before middle after fell took = omega arith

not_more : (before after : ℕ) → after ≤ before → after ≤ suc before
not_more before after h = omega (arith, h)

pub fault_counts : (spot : Spot) (cause : Cause) (e : EvalFault) (o : Outside) → IsFault spot cause e → CountsFault e o o
fault_counts spot cause fault.Host o h = absurd h
fault_counts spot cause fault.OutOfMemory o h = tt
fault_counts spot cause (fault.At path line why) o h = refl

pub fault_whole : (spot : Spot) (cause : Cause) (e : EvalFault) → IsFault spot cause e → HoldsNoMemory e
fault_whole spot cause fault.Host h = absurd h
fault_whole spot cause fault.OutOfMemory h = tt
fault_whole spot cause (fault.At path line why) h = h.2

pub fault_took : (spot : Spot) (cause : Cause) (e : EvalFault) (left : ℕ) → IsFault spot cause e → refused_in cause ≡ None → TookTurn (refused_by e) left left
fault_took spot cause fault.Host left h none = tt
fault_took spot cause fault.OutOfMemory left h none = tt
fault_took spot cause (fault.At path line why) left h none = subst (λ text. TookTurn text left left) (sym (ap refused_in h.1 ∙ none)) tt

module _ {R : Type 0} where
  -- a fault ends what follows; of what natives keep, what follows only adds to it
  agrees_then : {A B C D : Type 0} (setting : Setting R) (view : A → B) (other : C → D) (e : EvalFault) (o : Outcome R B) (next : B → State R → Outcome R D) (s : State R)
      → ((value : B) (later : State R) → Begins setting later (next value later)) → Agrees setting view (Err e) o s → Agrees setting other (Err e) (then_do o next) s
  agrees_then setting view other fault.Host o next s more h = then_begins setting o next s h more
  agrees_then setting view other fault.OutOfMemory o next s more h = tt
  agrees_then setting view other (fault.At path line why) o next s more h = ap (λ p. then_do p next) h

  agrees_go : {A : Type 0} (setting : Setting R) (view : A → Flow) (e : EvalFault) (o : Outcome R Flow) (next : State R → Outcome R Flow) (s : State R)
      → ((later : State R) → Begins setting later (next later)) → Agrees setting view (Err e) o s → Agrees setting view (Err e) (then_go o next) s
  agrees_go setting view fault.Host o next s more h = go_begins setting o next s h more
  agrees_go setting view fault.OutOfMemory o next s more h = tt
  agrees_go setting view (fault.At path line why) o next s more h = ap (λ p. then_go p next) h

  -- the same by another outcome that is equal
  agrees_by : {A B : Type 0} (setting : Setting R) (view : A → B) (result : Result A EvalFault) (o p : Outcome R B) (s : State R) → o ≡ p → Agrees setting view result p s → Agrees setting view result o s
  agrees_by setting view result o p s e h = subst (λ x. Agrees setting view result x s) (sym e) h

  pub err_then : {A B C D : Type 0} (view : A → B) (other : C → D) (what : Setting R → State R → Outcome R B) (next : Setting R → B → State R → Outcome R D) (a b : Machine R) (e : EvalFault)
      → ((setting : Setting R) (value : B) (later : State R) → Begins setting later (next setting value later)) → Does view what a b (Err e)
      → Does other (λ setting s. then_do (what setting s) (next setting)) a b (Err e)
  err_then view other what next a b e more h = record {
    told = λ setting is none. agrees_then setting view other e (what setting (state_of a)) (next setting) (state_of b) (more setting) (h.told setting is none);
    stays = h.stays;
    counts = h.counts;
    whole = h.whole;
    took = h.took;
  }

  pub err_then_in : {A B C D : Type 0} (view : A → B) (other : C → D) (what : Setting R → State R → Outcome R B) (next : Setting R → B → State R → Outcome R D) (a b : Machine R) (e : EvalFault)
      → ((setting : Setting R) (value : B) (later : State R) → Begins setting later (next setting value later)) → DoesInCall view what a b (Err e)
      → DoesInCall other (λ setting s. then_do (what setting s) (next setting)) a b (Err e)
  err_then_in view other what next a b e more h = record {
    told = λ setting is none. agrees_then setting view other e (what setting (state_of a)) (next setting) (state_of b) (more setting) (h.told setting is none);
    stays = h.stays;
    counts = h.counts;
    whole = h.whole;
  }

  pub ok_then : {A B D : Type 0} (view : A → B) (what : Setting R → State R → Outcome R B) (next : Setting R → B → State R → Outcome R D) (a b : Machine R) (value : A)
      → Does view what a b (Ok value) → Leads (λ setting s. then_do (what setting s) (next setting)) (λ setting. next setting (view value)) a b
  ok_then view what next a b value h = record {
    told = λ setting is none. ap (λ o. then_do o (next setting)) (h.told setting is none);
    stays = h.stays;
    counts = h.counts;
  }

  pub err_go : {A : Type 0} (view : A → Flow) (what : Setting R → State R → Outcome R Flow) (next : Setting R → State R → Outcome R Flow) (a b : Machine R) (e : EvalFault)
      → ((setting : Setting R) (later : State R) → Begins setting later (next setting later)) → Does view what a b (Err e)
      → Does view (λ setting s. then_go (what setting s) (next setting)) a b (Err e)
  err_go view what next a b e more h = record {
    told = λ setting is none. agrees_go setting view e (what setting (state_of a)) (next setting) (state_of b) (more setting) (h.told setting is none);
    stays = h.stays;
    counts = h.counts;
    whole = h.whole;
    took = h.took;
  }

  -- a statement after which the next one follows
  pub ok_go : (what : Setting R → State R → Outcome R Flow) (next : Setting R → State R → Outcome R Flow) (a b : Machine R)
      → Does flow_of what a b (Ok ways.GoesOn) → Leads (λ setting s. then_go (what setting s) (next setting)) next a b
  ok_go what next a b h = record {
    told = λ setting is none. ap (λ o. then_go o (next setting)) (h.told setting is none);
    stays = h.stays;
    counts = h.counts;
  }

  -- a statement that ends the rule or file
  pub ended_go : (what : Setting R → State R → Outcome R Flow) (next : Setting R → State R → Outcome R Flow) (a b : Machine R) (value : Value)
      → Does flow_of what a b (Ok (ways.Returns value)) → Does flow_of (λ setting s. then_go (what setting s) (next setting)) a b (Ok (ways.Returns value))
  ended_go what next a b value h = record {
    told = λ setting is none. ap (λ o. then_go o (next setting)) (h.told setting is none);
    stays = h.stays;
    counts = h.counts;
    whole = h.whole;
    took = h.took;
  }

  -- what is left is done
  pub led : {A B : Type 0} (view : A → B) (what rest : Setting R → State R → Outcome R B) (a b c : Machine R) (result : Result A EvalFault) → Leads what rest a b → Does view rest b c result → Does view what a c result
  led view what rest a b c result one two = record {
    told = λ setting is refuses.
        agrees_by setting view result (what setting (state_of a)) (rest setting (state_of b)) (state_of c)
        (one.told setting is (refuses_first setting.refused a.left b.left c.left (refused_of result) two.stays.turns two.took refuses))
        (two.told setting (setting_after setting a b one.stays is) (refuses_second setting.refused a.left b.left c.left (refused_of result) one.stays.turns refuses));
    stays = stays_then a b c one.stays two.stays;
    counts = counts_after result a.outside b.outside c.outside one.counts two.counts;
    whole = two.whole;
    took = took_later (refused_of result) a.left b.left c.left one.stays.turns two.took;
  }

  -- what does what is defined does so in a call
  pub weaker : {A B : Type 0} (view : A → B) (what : Setting R → State R → Outcome R B) (a b : Machine R) (result : Result A EvalFault) → Does view what a b result → DoesInCall view what a b result
  weaker view what a b result h = record {
    told = λ setting is refuses. h.told setting is (refuses_second setting.refused (suc a.left) a.left b.left (refused_of result) (not_more a.left a.left (omega arith)) refuses);
    stays = h.stays;
    counts = h.counts;
    whole = h.whole;
  }

  -- in a call one is done and then the other
  pub in_call_then : {A B C D : Type 0} (view : A → B) (other : C → D) (what : Setting R → State R → Outcome R B) (next : Setting R → B → State R → Outcome R D) (a b c : Machine R) (value : A) (result : Result C EvalFault)
      → DoesInCall view what a b (Ok value) → Does other (λ setting. next setting (view value)) b c result → DoesInCall other (λ setting s. then_do (what setting s) (next setting)) a c result
  in_call_then view other what next a b c value result one two = record {
    told = λ setting is refuses.
        agrees_by setting other result (then_do (what setting (state_of a)) (next setting)) (next setting (view value) (state_of b)) (state_of c)
        (ap (λ o. then_do o (next setting)) (one.told setting is (refuses_first setting.refused (suc a.left) b.left c.left (refused_of result) two.stays.turns two.took refuses)))
        (two.told setting (setting_after setting a b one.stays is) (refuses_second setting.refused (suc a.left) b.left c.left (refused_of result) (not_more a.left b.left one.stays.turns) refuses));
    stays = stays_then a b c one.stays two.stays;
    counts = counts_after result a.outside b.outside c.outside one.counts two.counts;
    whole = two.whole;
  }

  pub led_in : {A B : Type 0} (view : A → B) (what rest : Setting R → State R → Outcome R B) (a b c : Machine R) (result : Result A EvalFault) → Leads what rest a b → Does view rest b c result → DoesInCall view what a c result
  led_in view what rest a b c result one two = weaker view what a c result (led view what rest a b c result one two)

  -- the same where no turn was taken so far
  pub led_same : {A B : Type 0} (view : A → B) (what rest : Setting R → State R → Outcome R B) (a b c : Machine R) (result : Result A EvalFault) → b.left ≡ a.left → Leads what rest a b → DoesInCall view rest b c result → DoesInCall view what a c result
  led_same view what rest a b c result same one two = record {
    told = λ setting is refuses.
        agrees_by setting view result (what setting (state_of a)) (rest setting (state_of b)) (state_of c)
        (one.told setting is (λ left low high. absurd (omega arith)))
        (two.told setting (setting_after setting a b one.stays is) (subst (λ n. Refuses setting.refused (suc n) c.left (refused_of result)) (sym same) refuses));
    stays = stays_then a b c one.stays two.stays;
    counts = counts_after result a.outside b.outside c.outside one.counts two.counts;
    whole = two.whole;
  }

  pub leads_then : {B : Type 0} (what rest last : Setting R → State R → Outcome R B) (a b c : Machine R) → Leads what rest a b → Leads rest last b c → Leads what last a c
  leads_then what rest last a b c one two = record {
    told = λ setting is none. one.told setting is (refuses_first setting.refused a.left b.left c.left None two.stays.turns tt none)
        ∙ two.told setting (setting_after setting a b one.stays is) (refuses_second setting.refused a.left b.left c.left None one.stays.turns none);
    stays = stays_then a b c one.stays two.stays;
    counts = two.counts ∙ one.counts;
  }

  pub leads_same : {B : Type 0} (what rest : Setting R → State R → Outcome R B) (a : Machine R) → ((setting : Setting R) → IsSettingOf setting a → what setting (state_of a) ≡ rest setting (state_of a)) → Leads what rest a a
  leads_same what rest a h = record { told = λ setting is none. h setting is; stays = stays_same a; counts = refl }

  -- memory ran out
  pub out_of_memory : {A B : Type 0} (view : A → B) (what : Setting R → State R → Outcome R B) (a b : Machine R) → Stays a b → Does view what a b (Err fault.OutOfMemory)
  out_of_memory view what a b stays = record { told = λ setting is refuses. tt; stays = stays; counts = tt; whole = tt; took = tt }

  -- a value without a change
  pub value_now : {A B : Type 0} (view : A → B) (what : Setting R → State R → Outcome R B) (a : Machine R) (value : A) → ((setting : Setting R) → IsSettingOf setting a → what setting (state_of a) ≡ gives (view value) (state_of a)) → Does view what a a (Ok value)
  value_now view what a value h = record { told = λ setting is none. h setting is; stays = stays_same a; counts = refl; whole = tt; took = tt }

  -- a fault without a change
  pub fault_agrees : {A B : Type 0} (setting : Setting R) (view : A → B) (spot : Spot) (cause : Cause) (e : EvalFault) (o : Outcome R B) (s : State R) → IsFault spot cause e → o ≡ fault_at spot cause s → Agrees setting view (Err e) o s
  fault_agrees setting view spot cause fault.Host o s h is = absurd h
  fault_agrees setting view spot cause fault.OutOfMemory o s h is = tt
  fault_agrees setting view spot cause (fault.At path line why) o s h is = is ∙ ap (λ p. fault_at p cause s) (sym h.0) ∙ ap (λ c. fault_at (record { path = path; line = line }) c s) (sym h.1)

  pub fault_now : {A B : Type 0} (view : A → B) (what : Setting R → State R → Outcome R B) (a : Machine R) (spot : Spot) (cause : Cause) (e : EvalFault) → IsFault spot cause e → refused_in cause ≡ None
      → ((setting : Setting R) → IsSettingOf setting a → what setting (state_of a) ≡ fault_at spot cause (state_of a)) → Does view what a a (Err e)
  fault_now view what a spot cause e h none is = record {
    told = λ setting right refuses. fault_agrees setting view spot cause e (what setting (state_of a)) (state_of a) h (is setting right);
    stays = stays_same a;
    counts = fault_counts spot cause e a.outside h;
    whole = fault_whole spot cause e h;
    took = fault_took spot cause e a.left h none;
  }

  -- one of two, by a condition that is known
  pub either_true : {A : Type 0} (b : Bool) (first second : State R → Outcome R A) (s : State R) → b ≡ true → either b first second s ≡ first s
  either_true b first second s e = ap (λ c. either c first second s) e

  pub either_false : {A : Type 0} (b : Bool) (first second : State R → Outcome R A) (s : State R) → b ≡ false → either b first second s ≡ second s
  either_false b first second s e = ap (λ c. either c first second s) e
