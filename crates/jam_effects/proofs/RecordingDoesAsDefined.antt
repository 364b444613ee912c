-- What natives are told of a call does what is defined.
use Rattle.std.proofs.Common.{◌≡◌, ℕ, Bool, true, false, not, is_some, List, drop, Option, Some, None, Ok, Err, refl, sym, ap, ◌∙◌, subst, arith}
use Rattle.std.specs.Option.{option_map}
use Rattle.b2_host.specs.Outside.{Outside}
use Rattle.b2_host.specs.OutsideLaws.{keeps_same}
use Rattle.jam_journal.specs.Tables.{Text, Key}
use Rattle.jam_journal.specs.Scopes.{Value}
use Rattle.jam_scope.specs.Worlds.{Worlds}
use Rattle.jam_scope.specs.Lines.{actions_place}
use Rattle.jam_meaning.specs.declared.native_answer.NativeError.{NativeError}
use Rattle.jam_meaning.specs.declared.native_answer.NativeError.TheVariants as errors
use Rattle.jam_meaning.specs.Faults.{Spot, native, arity, refused_in}
use Rattle.jam_meaning.specs.Laws.{bounds}
use Rattle.jam_meaning.specs.States.{State}
use Rattle.jam_meaning.specs.Outcomes.{gives}
use Rattle.jam_meaning.specs.Settings.{Told, answers, Meaning, Setting}
use Rattle.jam_meaning.specs.Refused.{TookTurn}
use Rattle.jam_meaning.specs.NativeCalls.{IsMeant, ActsAsMeant, KeepsFrames, DeclinesWhole, refused_of as refused_natively}
use Rattle.jam_meaning.specs.RuleCalls.{as_told, acted_answer}
use Rattle.jam_effects.specs.declared.at.At.{At}
use Rattle.jam_effects.specs.declared.turns.Turns.{Turns}
use Rattle.jam_effects.specs.declared.fault.EvalFault.{EvalFault}
use Rattle.jam_effects.specs.declared.fault.EvalFault.TheVariants as fault
use Rattle.jam_effects.specs.Causes.{refused_of}
use Rattle.jam_effects.specs.Spots.{spot_of}
use Rattle.jam_effects.specs.AskedNatives.{noted_by, recorded_by, record_call_at, IsNativeFault}
use Rattle.jam_effects.specs.Machines.{Machine, machine, state_of}
use Rattle.jam_effects.specs.Does.{kinds, Stays, Counts, Agrees, Does}
use Rattle.jam_effects.specs.Views.{truth}
use Rattle.jam_effects.proofs.OrderedCallsDoAsDefined.{value_now, fault_agrees}
use Rattle.jam_effects.proofs.NativeAnswersDoAsDefined.{error_whole}

-- a fault that stands for an error of natives that is no failure of the host
quiet : (error : NativeError) (name : Text) (spot : Spot) (e : EvalFault) (o : Outside) → IsNativeFault error name spot e → (error ≡ errors.Host → ⊥) → Counts {A = Bool} (Err e) o o
quiet error name spot fault.OutOfMemory o h not_ = tt
quiet error name spot (fault.At path line why) o h not_ = refl
quiet (errors.Fault f) name spot fault.Host o h not_ = absurd h
quiet errors.Arity name spot fault.Host o h not_ = absurd h
quiet errors.Host name spot fault.Host o h not_ = absurd (not_ refl)
quiet errors.OutOfMemory name spot fault.Host o h not_ = cc

-- nothing was refused
none_refused : (error : NativeError) (name : Text) (spot : Spot) (e : EvalFault) → IsNativeFault error name spot e → refused_natively {A = Bool} (Err error) ≡ None → refused_of {A = Bool} (Err e) ≡ None
none_refused error name spot fault.Host h none = refl
none_refused error name spot fault.OutOfMemory h none = refl
none_refused (errors.Fault f) name spot (fault.At path line why) h none = ap refused_in h.1 ∙ none
none_refused errors.Arity name spot (fault.At path line why) h none = ap refused_in h.1
none_refused errors.Host name spot (fault.At path line why) h none = cc
none_refused errors.OutOfMemory name spot (fault.At path line why) h none = cc

-- where the name of some actions is found
pub some_key : {X : Type 0} (f : X → Key) (found : Option X) (none : Bool) (place : Option Key) → option_map f found ≡ place → is_some found ≡ not none → none ≡ false → (key : Key) × (place ≡ Some key)
some_key f None none place e s n = (let h : false ≡ true = s ∙ ap not n in cc)
some_key f (Some x) none place e s n = (f x, sym e)

module _ {R : Type 0} where
  stays_told : (ws later : Worlds) (turns : Turns) (k now : R) (meaning same : Option (Meaning R)) (o : Outside) → same ≡ meaning → KeepsFrames ws later → Stays (machine ws turns k meaning o) (machine later turns now same o)
  stays_told ws later turns k now meaning same o means frames = record {
    turns = omega arith;
    budget = refl;
    meaning = means;
    frames = ap kinds frames.frames;
    outer = ap (λ fs. bounds (drop 1 fs)) frames.frames;
    marks = frames.marked;
    step = frames.step;
    disk = refl;
    children = refl;
    keeps = keeps_same o o refl;
  }

  fault_noted : (setting : Setting R) (error : NativeError) (name : Text) (spot : Spot) (e : EvalFault) (told : Told Bool R) (s : State R) (ws : Worlds) (k : R)
      → IsNativeFault error name spot e → (error ≡ errors.Host → ⊥) → IsMeant told (Err error) ws k → Agrees setting truth (Err e) (noted_by name spot s told) (as_told ws k s)
  fault_noted setting (errors.Fault f) name spot e told s ws k h not_ is = fault_agrees setting truth spot (native f) e (noted_by name spot s told) (as_told ws k s) h (ap (noted_by name spot s) is)
  fault_noted setting errors.Arity name spot e told s ws k h not_ is = fault_agrees setting truth spot (arity name) e (noted_by name spot s told) (as_told ws k s) h (ap (noted_by name spot s) is)
  fault_noted setting errors.Host name spot e told s ws k h not_ is = absurd (not_ refl)
  fault_noted setting errors.OutOfMemory name spot e told s ws k h not_ is = subst (λ x. Agrees setting truth (Err x) (noted_by name spot s told) (as_told ws k s)) (sym h) tt

  -- no actions have the name
  pub record_none : (name : Text) (given : List Value) (at : At) (m : Machine R) → actions_place name m.worlds.now ≡ None → Does truth (record_call_at name given at) m m (Ok false)
  record_none name given at m none = value_now truth (record_call_at name given at) m false (λ setting is. ap (λ key. recorded_by key name given at setting (state_of m)) none)

  noted_so : (b : Bool) (name : Text) (spot : Spot) (ws later : Worlds) (left : ℕ) (k now : R) → DeclinesWhole b ws k later now
      → noted_by name spot (record { worlds = ws; left = left; kept = k }) (answers b later now) ≡ gives b (record { worlds = later; left = left; kept = now })
  noted_so true name spot ws later left k now declined = refl
  noted_so false name spot ws later left k now (same, kept) =
      ap (λ w. gives false (record { worlds = w; left = left; kept = k })) (sym same) ∙ ap (λ v. gives false (record { worlds = later; left = left; kept = v })) (sym kept)

  pub record_ok : (name : Text) (given : List Value) (at : At) (key : Key) (ws later : Worlds) (turns : Turns) (k now : R) (meaning same : Option (Meaning R)) (o : Outside) (b : Bool) → actions_place name ws.now ≡ Some key
      → ActsAsMeant meaning name given at.line ws k (Ok b) later now → DeclinesWhole b ws k later now → same ≡ meaning → KeepsFrames ws later
      → Does truth (record_call_at name given at) (machine ws turns k meaning o) (machine later turns now same o) (Ok b)
  record_ok name given at key ws later turns k now meaning same o b is told declined means frames = record {
    told = λ setting right none. ap (λ p. recorded_by p name given at setting (state_of (machine ws turns k meaning o))) is
        ∙ ap (noted_by name (spot_of at) (state_of (machine ws turns k meaning o))) (told setting.natives right.natives) ∙ noted_so b name (spot_of at) ws later turns.left k now declined;
    stays = stays_told ws later turns k now meaning same o means frames;
    counts = refl;
    whole = tt;
    took = tt;
  }

  pub record_fails : (name : Text) (given : List Value) (at : At) (key : Key) (ws later : Worlds) (turns : Turns) (k now : R) (meaning same : Option (Meaning R)) (o : Outside) (error : NativeError) (e : EvalFault) → actions_place name ws.now ≡ Some key
      → ActsAsMeant meaning name given at.line ws k (Err error) later now → same ≡ meaning → KeepsFrames ws later → (error ≡ errors.Host → ⊥) → refused_natively {A = Bool} (Err error) ≡ None → IsNativeFault error name (spot_of at) e
      → Does truth (record_call_at name given at) (machine ws turns k meaning o) (machine later turns now same o) (Err e)
  record_fails name given at key ws later turns k now meaning same o error e is told means frames not_ none h = record {
    told = λ setting right refuses_.
        subst (λ p. Agrees setting truth (Err e) (recorded_by p name given at setting (state_of (machine ws turns k meaning o))) (state_of (machine later turns now same o))) (sym is)
        (fault_noted setting error name (spot_of at) e (acted_answer setting name given at.line (state_of (machine ws turns k meaning o))) (state_of (machine ws turns k meaning o)) later now h not_ (told setting.natives right.natives));
    stays = stays_told ws later turns k now meaning same o means frames;
    counts = quiet error name (spot_of at) e o h not_;
    whole = error_whole error name (spot_of at) e h;
    took = subst (λ text. TookTurn text turns.left turns.left) (sym (none_refused error name (spot_of at) e h none)) tt;
  }
