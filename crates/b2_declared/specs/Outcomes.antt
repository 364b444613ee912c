-- Steps that may be refused.
use Rattle.std.specs.Prelude.{◌≡◌, List, [], ◌∷◌, Result, Ok, Err}
use Rattle.b2_base.specs.Results.{and_then}
use Rattle.b2_declared.specs.declared.fault.DeclaringFault.{DeclaringFault}
use Rattle.b2_declared.specs.declared.fault.DeclaringFault.TheVariants.{OutOfMemory}

-- what the steps for some things make of a state, one after another, or the first fault
abbrev pub all_steps : {S X : Type 0} → (S → X → Result S DeclaringFault) → S → List X → Result S DeclaringFault
all_steps step state [] = Ok state
all_steps step state (x ∷ more) = and_then (λ next. all_steps step next more) (step state x)

-- a fault is the one that was to be found; out of memory needs none
abbrev pub IsFaultOf : {X : Type 0} → Result X DeclaringFault → DeclaringFault → Type 0
IsFaultOf outcome OutOfMemory = Unit {0}
IsFaultOf outcome fault = outcome ≡ Err fault
