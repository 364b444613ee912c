-- How far the modifiers of a text are read.
use Rattle.std.specs.Prelude.{◌≡◌, ◌⊎◌, ℕ, ◌<◌, List, length, drop, Result, Ok, Err}
use Rattle.std.specs.Str.{IsUtf8}
use Rattle.std.specs.Borrow.{Bor}
use Rattle.b2_base.specs.declared.expand_fault.ExpandFault.{ExpandFault}
use Rattle.b2_base.specs.declared.expand_fault.ExpandFault.TheVariants as faults
use Rattle.jam_expand.specs.declared.modifiers.Modifiers.{Modifiers}
use Rattle.jam_expand.specs.Modifiers.{modified_after}

-- an end of a text, and not all of it
pub record IsShorterEnd (rest text : List ℕ) : Type 0 where
  pub place : ℕ
  pub rest_is : rest ≡ drop place text
  pub shorter : length rest < length text
  pub utf8 : IsUtf8 rest

-- what is read of a text with the modifiers so far is what is read of the rest with those that were added
abbrev pub IsReadOn : Result (Bor (List ℕ)) ExpandFault → List ℕ → Modifiers → Modifiers → Type 0
IsReadOn (Ok rest) text before after = modified_after 0 text before ≡ modified_after 0 rest.now after
IsReadOn (Err fault) text before after = (fault ≡ faults.OutOfMemory) ⊎ (modified_after 0 text before ≡ Err fault)
