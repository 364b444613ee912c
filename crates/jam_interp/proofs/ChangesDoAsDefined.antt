-- Changes of the worlds that evaluate nothing.
use Rattle.std.proofs.Common.{◌≡◌, inl, inr, None, Ok, Err, refl, sym, ap, ◌∙◌, subst, arith}
use Rattle.b2_host.specs.OutsideLaws.{keeps_same}
use Rattle.jam_scope.specs.Worlds.{Worlds}
use Rattle.jam_meaning.specs.Faults.{Spot, Cause, expand, refused_in}
use Rattle.jam_meaning.specs.States.{State}
use Rattle.jam_meaning.specs.Settings.{Setting}
use Rattle.jam_meaning.specs.Outcomes.{Outcome, gives, Flow, fault_at}
use Rattle.jam_effects.specs.declared.flow.Flow.TheVariants as ways
use Rattle.jam_effects.specs.declared.fault.EvalFault.{EvalFault}
use Rattle.jam_effects.specs.Causes.{IsFault}
use Rattle.jam_effects.specs.Machines.{Machine, state_of, IsSettingOf}
use Rattle.jam_effects.specs.Does.{Stays, Does}
use Rattle.jam_effects.specs.Naming.{Change, IsRefused, IsMade, SameFrames}
use Rattle.jam_effects.specs.Views.{flow_of}
use Rattle.jam_effects.proofs.OrderedCallsDoAsDefined.{out_of_memory, fault_agrees, fault_counts, fault_whole, fault_took}
use Rattle.jam_effects.proofs.SettingNamesIsOneChange.{by_change}

module _ {R : Type 0} where
  pub stays_worlds : (m : Machine R) (ws : Worlds) → SameFrames m.worlds ws → Stays m (record m { worlds = ws })
  stays_worlds m ws same = record {
    turns = omega arith;
    budget = refl;
    meaning = refl;
    frames = same.frames;
    outer = same.outer;
    marks = same.marks;
    step = same.step;
    disk = refl;
    children = refl;
    keeps = keeps_same m.outside m.outside refl;
  }

  -- a value, with other worlds
  pub puts : {A B : Type 0} (view : A → B) (what : Setting R → State R → Outcome R B) (m : Machine R) (ws : Worlds) (v : A) → SameFrames m.worlds ws
      → ((setting : Setting R) → IsSettingOf setting m → what setting (state_of m) ≡ gives (view v) (state_of (record m { worlds = ws }))) → Does view what m (record m { worlds = ws }) (Ok v)
  puts view what m ws v same h = record { told = λ setting right none. h setting right; stays = stays_worlds m ws same; counts = refl; whole = tt; took = tt }

  -- a fault, with other worlds
  pub puts_not : {A B : Type 0} (view : A → B) (what : Setting R → State R → Outcome R B) (m : Machine R) (ws : Worlds) (spot : Spot) (cause : Cause) (e : EvalFault) → SameFrames m.worlds ws → IsFault spot cause e → refused_in cause ≡ None
      → ((setting : Setting R) → IsSettingOf setting m → what setting (state_of m) ≡ fault_at spot cause (state_of (record m { worlds = ws }))) → Does view what m (record m { worlds = ws }) (Err e)
  puts_not view what m ws spot cause e same h none is = record {
    told = λ setting right refuses. fault_agrees setting view spot cause e (what setting (state_of m)) (state_of (record m { worlds = ws })) h (is setting right);
    stays = stays_worlds m ws same;
    counts = fault_counts spot cause e m.outside h;
    whole = fault_whole spot cause e h;
    took = fault_took spot cause e m.left h none;
  }

  pub change_fails : (what : Setting R → State R → Outcome R Flow) (c : Change) (spot : Spot) (m : Machine R) (ws : Worlds) (e : EvalFault) → SameFrames m.worlds ws → IsRefused c spot e ws
      → ((setting : Setting R) → what setting (state_of m) ≡ by_change c spot (state_of m)) → Does flow_of what m (record m { worlds = ws }) (Err e)
  change_fails what c spot m ws e same (inl oom) is = subst (λ f. Does flow_of what m (record m { worlds = ws }) (Err f)) (sym oom) (out_of_memory flow_of what m (record m { worlds = ws }) (stays_worlds m ws same))
  change_fails what c spot m ws e same (inr (f, refuses, h)) is =
      puts_not flow_of what m ws spot (expand f) e same h refl (λ setting right. is setting ∙ ap (λ x. by_change x spot (state_of m)) refuses)

  pub change_does : {U : Type 0} (what : Setting R → State R → Outcome R Flow) (c : Change) (spot : Spot) (m : Machine R) (ws : Worlds) (u : U) → SameFrames m.worlds ws → IsMade c spot (Ok u) ws
      → ((setting : Setting R) → what setting (state_of m) ≡ by_change c spot (state_of m)) → Does flow_of what m (record m { worlds = ws }) (Ok ways.GoesOn)
  change_does what c spot m ws u same done_ is =
      puts flow_of what m ws ways.GoesOn same (λ setting right. is setting ∙ ap (λ x. by_change x spot (state_of m)) done_)
