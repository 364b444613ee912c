-- What follows a name.
use Rattle.std.specs.Prelude.{◌≡◌, ◌⊎◌, ℕ, List, Option, Some, None, Result, Ok, Err}
use Rattle.std.specs.Borrow.{Bor}
use Rattle.b2_base.specs.declared.expand_fault.ExpandFault.{ExpandFault}
use Rattle.b2_base.specs.declared.expand_fault.ExpandFault.TheVariants as faults
use Rattle.b2_base.specs.Results.{and_then}
use Rattle.jam_expand.specs.declared.index.IndexRange.{IndexRange}
use Rattle.jam_expand.specs.declared.reference.Reference.{Reference}
use Rattle.jam_expand.specs.Indexes.{Indexed, indexed}
use Rattle.jam_expand.specs.Modifiers.{modified}

-- the index and the modifiers; the index is read first
abbrev pub reference_of : List ℕ → Result Reference ExpandFault
reference_of text = and_then (λ found. and_then (λ modifiers. Ok (record { index = found.0; modifiers = modifiers })) (modified found.1)) (indexed text)

-- a call's result is the index and the text after it, or the fault, unless memory ran out
abbrev pub IsIndexedBy : Result (Option IndexRange × Bor (List ℕ)) ExpandFault → Indexed → Type 0
IsIndexedBy (Ok found) answer = answer ≡ Ok (found.0, found.1.now)
IsIndexedBy (Err fault) answer = (fault ≡ faults.OutOfMemory) ⊎ (answer ≡ Err fault)

-- a call's result is this text, or nothing
abbrev pub IsClosedBy : Option (Bor (List ℕ)) → Option (List ℕ) → Type 0
IsClosedBy None answer = answer ≡ None
IsClosedBy (Some after) answer = answer ≡ Some after.now
