-- How results are seen.
use Rattle.std.specs.Prelude.{◌≡◌, Bool, List, [], Result, Ok, Err}
use Rattle.jam_journal.specs.Scopes.{Value}
use Rattle.jam_meaning.specs.declared.native_answer.NativeStep.{NativeStep}
use Rattle.jam_meaning.specs.States.{State}
use Rattle.jam_meaning.specs.Settings.{Setting}
use Rattle.jam_meaning.specs.Outcomes.{Outcome, Flow, goes_on, returns}
use Rattle.jam_effects.specs.declared.flow.Flow.{Flow as Way}
use Rattle.jam_effects.specs.declared.flow.Flow.TheVariants as ways
use Rattle.jam_effects.specs.declared.fault.EvalFault.{EvalFault}

abbrev pub value : Value → Value
value v = v

abbrev pub values : List Value → List Value
values vs = vs

abbrev pub truth : Bool → Bool
truth b = b

abbrev pub step : NativeStep → NativeStep
step s = s

abbrev pub ended : Unit {0} → Unit {0}
ended u = u

abbrev pub flow_of : Way → Flow
flow_of ways.GoesOn = goes_on
flow_of (ways.Returns v) = returns v

-- the value of a rule whose statements ended so, and what follows a file that ended so
abbrev pub IsValueOf : Result Way EvalFault → Result Value EvalFault → Type 0
IsValueOf (Ok ways.GoesOn) result = result ≡ Ok []
IsValueOf (Ok (ways.Returns v)) result = result ≡ Ok v
IsValueOf (Err fault) result = result ≡ Err fault

abbrev pub IsFileEnd : Result Way EvalFault → Result Way EvalFault → Type 0
IsFileEnd (Ok way) result = result ≡ Ok ways.GoesOn
IsFileEnd (Err fault) result = result ≡ Err fault

-- what a function does with a setting and a state
abbrev pub What : Type 0 → Type 0 → Type 0
What R A = Setting R → State R → Outcome R A
