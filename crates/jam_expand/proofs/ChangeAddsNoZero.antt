-- Changed elements have no zero byte.
use Rattle.std.proofs.Common.{◌≡◌, ℕ, ◌<◌, ◌+◌, ◌-◌, Bool, true, false, ltb, List, [], ◌∷◌, ◌++◌, refl, arith, cond, map}
use Rattle.std.specs.Char.{to_ascii_uppercase, to_ascii_lowercase}
use Rattle.std.specs.List.{AllByRecursion}
use Rattle.std.proofs.lemmas.Bool.{ltb-false}
use Rattle.std.proofs.lemmas.List.Elements.{All-append, All-from_recursion, recursion_from_All}
use Rattle.b2_base.specs.Bytes.{HasNoZero}
use Rattle.jam_expand.specs.declared.modifiers.Modifiers.{Modifiers}
use Rattle.jam_expand.specs.Modifiers.{cased}

pub no_zero_append : (front back : List ℕ) → HasNoZero front → HasNoZero back → HasNoZero (front ++ back)
no_zero_append front back f b = All-append (λ byte. 0 < byte) front back f b

map_no_zero : (change : ℕ → ℕ) → ((byte : ℕ) → 0 < byte → 0 < change byte) → (text : List ℕ) → AllByRecursion (λ byte. 0 < byte) text → AllByRecursion (λ byte. 0 < byte) (map change text)
map_no_zero change keeps [] h = tt
map_no_zero change keeps (byte ∷ text) h = (keeps byte h.0, map_no_zero change keeps text h.1)

upper_positive : (byte : ℕ) → 0 < byte → 0 < to_ascii_uppercase byte
upper_positive byte h = go (ltb byte 97) refl (ltb byte 123)
  where
    go : (t : Bool) → ltb byte 97 ≡ t → (u : Bool) → 0 < cond t byte (cond u (byte - 32) byte)
    go true e u = h
    go false e true = omega (arith, ltb-false byte 97 e)
    go false e false = h

lower_positive : (byte : ℕ) → 0 < byte → 0 < to_ascii_lowercase byte
lower_positive byte h = go (ltb byte 65) (ltb byte 91)
  where
    go : (t u : Bool) → 0 < cond t byte (cond u (byte + 32) byte)
    go true u = h
    go false true = omega (arith, h)
    go false false = h

changed_no_zero : (flag : Bool) (change : ℕ → ℕ) → ((byte : ℕ) → 0 < byte → 0 < change byte) → (text : List ℕ) → HasNoZero text → HasNoZero (cond flag (map change text) text)
changed_no_zero true change keeps text h = All-from_recursion (λ byte. 0 < byte) (map change text) (map_no_zero change keeps text (recursion_from_All (λ byte. 0 < byte) text h))
changed_no_zero false change keeps text h = h

pub cased_no_zero : (modifiers : Modifiers) (text : List ℕ) → HasNoZero text → HasNoZero (cased modifiers text)
cased_no_zero modifiers text h =
    changed_no_zero modifiers.lower to_ascii_lowercase lower_positive (cond modifiers.upper (map to_ascii_uppercase text) text)
    (changed_no_zero modifiers.upper to_ascii_uppercase upper_positive text h)
