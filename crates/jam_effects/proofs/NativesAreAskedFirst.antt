-- A call of a native rule is what natives are asked or told, and then the rest: for calls by name.
use Rattle.std.proofs.Common.{◌≡◌, Bool, true, false, List, Option, Some, None, refl}
use Rattle.jam_journal.specs.Tables.{Text, Key}
use Rattle.jam_journal.specs.Scopes.{Value}
use Rattle.jam_scope.specs.Rules.{Rule}
use Rattle.jam_scope.specs.Lines.{actions_place}
use Rattle.jam_meaning.specs.declared.native_answer.NativeStep.{NativeStep}
use Rattle.jam_meaning.specs.Faults.{Spot}
use Rattle.jam_meaning.specs.States.{State}
use Rattle.jam_meaning.specs.Settings.{Told, answers, refuses, Setting}
use Rattle.jam_meaning.specs.Outcomes.{Outcome, Flow, then_do}
use Rattle.jam_meaning.specs.Levels.{Levels}
use Rattle.jam_meaning.specs.RuleCalls.{native_answer, acted_answer, stepped, told, native_call, recorded, acted_at, acted}
use Rattle.jam_effects.specs.declared.at.At.{At}
use Rattle.jam_effects.specs.Spots.{spot_of}
use Rattle.jam_effects.specs.AskedNatives.{heard, native_step_at, noted_by, recorded_by, record_call_at}

module _ {R : Type 0} (setting : Setting R) (deep : Levels R) (body : Rule → State R → Outcome R Flow) where
  heard_then : (name : Text) (spot : Spot) (s : State R) (t : Told NativeStep R) → told setting deep body name spot s t ≡ then_do (heard name spot s t) (λ step. λ s₁. stepped setting deep body name spot step s₁)
  heard_then name spot s (answers step worlds kept) = refl
  heard_then name spot s (refuses cause worlds kept) = refl

  -- a native rule is asked, and then what it asks for is done
  pub native_is : (name : Text) (given : List Value) (at : At) (s : State R)
      → native_call setting deep body name given (spot_of at) s ≡ then_do (native_step_at name given at setting s) (λ step. λ s₁. stepped setting deep body name (spot_of at) step s₁)
  native_is name given at s = heard_then name (spot_of at) s (native_answer setting name given at.line s)

  noted_then : (name : Text) (spot : Spot) (s : State R) (t : Told Bool R) (next : Bool → State R → Outcome R Value) → recorded setting deep body name spot s t next ≡ then_do (noted_by name spot s t) next
  noted_then name spot s (answers true worlds kept) next = refl
  noted_then name spot s (answers false worlds kept) next = refl
  noted_then name spot s (refuses cause worlds kept) next = refl

  acted_by : (key : Option Key) (name : Text) (given : List Value) (at : At) (s : State R) (next : Bool → State R → Outcome R Value)
      → acted_at setting deep body key name given (spot_of at) s next ≡ then_do (recorded_by key name given at setting s) next
  acted_by None name given at s next = refl
  acted_by (Some key) name given at s next = noted_then name (spot_of at) s (acted_answer setting name given at.line s) next

  -- natives are told of a call, and then the rest is done
  pub acted_is : (name : Text) (given : List Value) (at : At) (s : State R) (next : Bool → State R → Outcome R Value)
      → acted setting deep body name given (spot_of at) s next ≡ then_do (record_call_at name given at setting s) next
  acted_is name given at s next = acted_by (actions_place name s.worlds.now) name given at s next
