-- What the parts of evaluation answer that evaluate nothing.
use Rattle.std.specs.Prelude.{◌≡◌, ◌⊎◌, List, [], ◌∷◌, ◌++◌, Option, Some, None, Result, Ok, Err, drop}
use Rattle.b2_base.specs.declared.expand_fault.ExpandFault.{ExpandFault}
use Rattle.b2_base.specs.declared.expand_fault.ExpandFault.TheVariants as expansions
use Rattle.b2_base.specs.Results.{and_then}
use Rattle.jam_expand.specs.Limits.{within}
use Rattle.jam_journal.specs.Tables.{Text}
use Rattle.jam_journal.specs.Scopes.{Value}
use Rattle.jam_meaning.specs.Faults.{Spot, expand}
use Rattle.jam_effects.specs.declared.calling.NamedCall.{NamedCall}
use Rattle.jam_effects.specs.declared.fault.EvalFault.{EvalFault}
use Rattle.jam_effects.specs.declared.fault.EvalFault.TheVariants as faults
use Rattle.jam_effects.specs.Causes.{IsFault}

-- the fault at a spot that stands for one of an expansion, unless memory ran out; out of memory stands for itself
abbrev pub IsExpandFault : ExpandFault → Spot → EvalFault → Type 0
IsExpandFault fault spot e = ((e ≡ faults.OutOfMemory) ⊎ IsFault spot (expand fault) e) × (fault ≡ expansions.OutOfMemory → e ≡ faults.OutOfMemory)

-- the result is the answer, with its fault at a spot, unless memory ran out
abbrev pub IsAnswered : {A B : Type 0} → (A → B) → Result B ExpandFault → Spot → Result A EvalFault → Type 0
IsAnswered view answer spot (Ok v) = answer ≡ Ok (view v)
IsAnswered view answer spot (Err e) = (e ≡ faults.OutOfMemory) ⊎ ((fault : ExpandFault) × (answer ≡ Err fault) × IsFault spot (expand fault) e)

-- the rule that is called, and its lists: further names come before the first one
abbrev pub named : Value → List Value → Result (Option (Text × List Value)) ExpandFault
named [] given = Ok None
named (name ∷ more) [] = Ok (Some (name, more ∷ []))
named (name ∷ more) (first ∷ rest) = and_then (λ list. Ok (Some (name, list ∷ rest))) (within (more ++ first))

abbrev pub named_of : Option NamedCall → Option (Text × List Value)
named_of None = None
named_of (Some call) = Some (call.name, call.lists)

-- the lists of a call: further texts come before the first one
abbrev pub lists_with : Value → List Value → Result (List Value) ExpandFault
lists_with more [] = Ok (more ∷ [])
lists_with more (first ∷ rest) = and_then (λ list. Ok (list ∷ rest)) (within (more ++ first))

-- lists with another first one, if there is one
abbrev pub lists_from : List Value → Option Value → List Value
lists_from given None = given
lists_from given (Some first) = first ∷ drop 1 given
