-- What natives are asked.
use Rattle.std.specs.Prelude.{◌≡◌, Bool, true, false, List, Option, Some, None}
use Rattle.jam_journal.specs.Tables.{Text, Key}
use Rattle.jam_journal.specs.Scopes.{Value}
use Rattle.jam_scope.specs.Lines.{actions_place}
use Rattle.jam_meaning.specs.declared.native_answer.NativeStep.{NativeStep}
use Rattle.jam_meaning.specs.declared.native_answer.NativeError.{NativeError}
use Rattle.jam_meaning.specs.declared.native_answer.NativeError.TheVariants as errors
use Rattle.jam_meaning.specs.Faults.{Spot, native, arity}
use Rattle.jam_meaning.specs.States.{State}
use Rattle.jam_meaning.specs.Settings.{Told, answers, refuses, Setting}
use Rattle.jam_meaning.specs.Outcomes.{Outcome, gives, fault_at}
use Rattle.jam_meaning.specs.RuleCalls.{as_told, cause_of, native_answer, acted_answer}
use Rattle.jam_effects.specs.declared.at.At.{At}
use Rattle.jam_effects.specs.declared.fault.EvalFault.{EvalFault}
use Rattle.jam_effects.specs.declared.fault.EvalFault.TheVariants as faults
use Rattle.jam_effects.specs.Causes.{IsFault}
use Rattle.jam_effects.specs.Spots.{spot_of}

module _ {R : Type 0} where
  -- what natives tell, as an outcome
  abbrev pub heard : {A : Type 0} → Text → Spot → State R → Told A R → Outcome R A
  heard name spot s (answers answer worlds kept) = gives answer (as_told worlds kept s)
  heard name spot s (refuses refusal worlds kept) = fault_at spot (cause_of name refusal) (as_told worlds kept s)

  abbrev pub native_step_at : Text → List Value → At → Setting R → State R → Outcome R NativeStep
  native_step_at name given at setting s = heard name (spot_of at) s (native_answer setting name given at.line s)

  -- a call that is not recorded changes nothing
  abbrev pub noted_by : Text → Spot → State R → Told Bool R → Outcome R Bool
  noted_by name spot s (answers true worlds kept) = gives true (as_told worlds kept s)
  noted_by name spot s (answers false worlds kept) = gives false s
  noted_by name spot s (refuses cause worlds kept) = fault_at spot (cause_of name cause) (as_told worlds kept s)

  abbrev pub recorded_by : Option Key → Text → List Value → At → Setting R → State R → Outcome R Bool
  recorded_by None name given at setting s = gives false s
  recorded_by (Some key) name given at setting s = noted_by name (spot_of at) s (acted_answer setting name given at.line s)

  abbrev pub record_call_at : Text → List Value → At → Setting R → State R → Outcome R Bool
  record_call_at name given at setting s = recorded_by (actions_place name s.worlds.now) name given at setting s

-- the fault of evaluation that stands for an error of natives
abbrev pub IsNativeFault : NativeError → Text → Spot → EvalFault → Type 0
IsNativeFault (errors.Fault fault) name spot e = IsFault spot (native fault) e
IsNativeFault errors.Arity name spot e = IsFault spot (arity name) e
IsNativeFault errors.Host name spot e = e ≡ faults.Host
IsNativeFault errors.OutOfMemory name spot e = e ≡ faults.OutOfMemory
