-- Modifiers are read letter by letter, each alone or with a value; what is none of them is a fault at that place.
use Rattle.std.proofs.Common.{◌≡◌, ◌≢◌, ℕ, ◌<◌, ◌≤◌, ◌+◌, Bool, true, false, suc, zero, List, [], ◌∷◌, length, drop, refl, ap, sym, ◌∙◌, arith, subst, cond, Some, None, Result, Ok, Err, ◌⊎◌, inl, inr}
use Rattle.std.proofs.lemmas.Bool.{ne_eqb}
use Rattle.std.specs.Str.{IsUtf8}
use Rattle.std.proofs.lemmas.List.{length-drop}
use Rattle.b2_base.specs.Bytes.{HasNoZero}
use Rattle.b2_base.specs.declared.expand_fault.ExpandFault.{ExpandFault}
use Rattle.b2_base.specs.declared.expand_fault.ExpandFault.TheVariants as faults
use Rattle.jam_path.specs.Names.{begins_with}
use Rattle.jam_expand.specs.declared.modifiers.Modifiers.{Modifiers}
use Rattle.jam_expand.specs.Cuts.{up_to, from_on, BeginsWithout}
use Rattle.jam_expand.specs.Modifiers.{alone, valued, value_at, Modified, next_modifier, modified_after}
use Rattle.jam_expand.specs.Reading.{IsShorterEnd}
use Rattle.jam_expand.proofs.TextsAreCutAtSigns.{left, up_to_no_zero, rest_no_zero}

skip_modified : (skipped : ℕ) (bytes : List ℕ) (modifiers : Modifiers) → modified_after skipped bytes modifiers ≡ modified_after 0 (drop skipped bytes) modifiers
unfolding modified_after
skip_modified zero bytes modifiers = refl
skip_modified (suc skipped) [] modifiers = refl
skip_modified (suc skipped) (byte ∷ bytes) modifiers = skip_modified skipped bytes modifiers

pub read_nothing : (modifiers : Modifiers) → modified_after 0 [] modifiers ≡ Ok modifiers
unfolding modified_after
read_nothing modifiers = refl

pub read_colon : (bytes : List ℕ) (modifiers : Modifiers) → modified_after 0 (58 ∷ bytes) modifiers ≡ modified_after 0 bytes modifiers
unfolding modified_after
read_colon bytes modifiers = refl

-- a letter alone
at_alone : (letter : ℕ) (bytes : List ℕ) (modifiers : Modifiers) → letter ≢ 58 → begins_with 61 bytes ≡ false → modified_after 0 (letter ∷ bytes) modifiers ≡ next_modifier (letter ∷ bytes) (alone letter modifiers) (modified_after 0 bytes)
unfolding modified_after
at_alone letter bytes modifiers other bare = rw (ne_eqb letter 58 other, bare) refl

pub read_alone : (letter : ℕ) (bytes : List ℕ) (before after : Modifiers) → letter ≢ 58 → begins_with 61 bytes ≡ false → alone letter before ≡ Some after → modified_after 0 (letter ∷ bytes) before ≡ modified_after 0 bytes after
read_alone letter bytes before after other bare is = at_alone letter bytes before other bare ∙ ap (λ found. next_modifier (letter ∷ bytes) found (modified_after 0 bytes)) is

pub bad_alone : (letter : ℕ) (bytes : List ℕ) (before : Modifiers) → letter ≢ 58 → begins_with 61 bytes ≡ false → alone letter before ≡ None → modified_after 0 (letter ∷ bytes) before ≡ Err (faults.BadModifier (letter ∷ bytes))
bad_alone letter bytes before other bare is = at_alone letter bytes before other bare ∙ ap (λ found. next_modifier (letter ∷ bytes) found (modified_after 0 bytes)) is

-- a letter with a value
after_value : (bytes : List ℕ) → drop (length (up_to (58 ∷ []) bytes) + 1) (61 ∷ bytes) ≡ from_on (58 ∷ []) bytes
after_value bytes = let e : length (up_to (58 ∷ []) bytes) + 1 ≡ suc (length (up_to (58 ∷ []) bytes)) = omega arith in rw e (left (58 ∷ []) bytes)

at_valued : (letter : ℕ) (bytes : List ℕ) (modifiers : Modifiers) → letter ≢ 58 → modified_after 0 (letter ∷ 61 ∷ bytes) modifiers ≡ next_modifier (letter ∷ 61 ∷ bytes) (valued letter (up_to (58 ∷ []) bytes) modifiers) (modified_after (length (up_to (58 ∷ []) bytes) + 1) (61 ∷ bytes))
unfolding modified_after
at_valued letter bytes modifiers other = rw (ne_eqb letter 58 other) refl

pub read_valued : (letter : ℕ) (bytes : List ℕ) (before after : Modifiers) → letter ≢ 58 → valued letter (up_to (58 ∷ []) bytes) before ≡ Some after → modified_after 0 (letter ∷ 61 ∷ bytes) before ≡ modified_after 0 (from_on (58 ∷ []) bytes) after
read_valued letter bytes before after other is =
    at_valued letter bytes before other
    ∙ ap (λ found. next_modifier (letter ∷ 61 ∷ bytes) found (modified_after (length (up_to (58 ∷ []) bytes) + 1) (61 ∷ bytes))) is
    ∙ skip_modified (length (up_to (58 ∷ []) bytes) + 1) (61 ∷ bytes) after
    ∙ ap (λ s. modified_after 0 s after) (after_value bytes)

pub bad_valued : (letter : ℕ) (bytes : List ℕ) (before : Modifiers) → letter ≢ 58 → valued letter (up_to (58 ∷ []) bytes) before ≡ None → modified_after 0 (letter ∷ 61 ∷ bytes) before ≡ Err (faults.BadModifier (letter ∷ 61 ∷ bytes))
bad_valued letter bytes before other is =
    at_valued letter bytes before other
    ∙ ap (λ found. next_modifier (letter ∷ 61 ∷ bytes) found (modified_after (length (up_to (58 ∷ []) bytes) + 1) (61 ∷ bytes))) is

-- what is not ASCII is no letter
none_alone : (byte : ℕ) (before : Modifiers) → (byte < 128 → ⊥) → alone byte before ≡ None
unfolding alone
none_alone byte before h =
    rw (ne_eqb byte 71 (λ e. h (omega (arith, e))), ne_eqb byte 68 (λ e. h (omega (arith, e))), ne_eqb byte 66 (λ e. h (omega (arith, e))), ne_eqb byte 83 (λ e. h (omega (arith, e))), ne_eqb byte 77 (λ e. h (omega (arith, e))), ne_eqb byte 80 (λ e. h (omega (arith, e))), ne_eqb byte 85 (λ e. h (omega (arith, e))), ne_eqb byte 76 (λ e. h (omega (arith, e)))) refl

none_valued : (byte : ℕ) (value : List ℕ) (before : Modifiers) → (byte < 128 → ⊥) → valued byte value before ≡ None
unfolding valued
none_valued byte value before h =
    rw (ne_eqb byte 71 (λ e. h (omega (arith, e))), ne_eqb byte 68 (λ e. h (omega (arith, e))), ne_eqb byte 66 (λ e. h (omega (arith, e))), ne_eqb byte 83 (λ e. h (omega (arith, e))), ne_eqb byte 77 (λ e. h (omega (arith, e))), ne_eqb byte 69 (λ e. h (omega (arith, e))), ne_eqb byte 74 (λ e. h (omega (arith, e))), ne_eqb byte 82 (λ e. h (omega (arith, e)))) refl

unfold_bad : (byte : ℕ) (bytes : List ℕ) (before : Modifiers) → (byte < 128 → ⊥) → modified_after 0 (byte ∷ bytes) before ≡ Err (faults.BadModifier (byte ∷ bytes))
unfolding modified_after
unfold_bad byte bytes before h = rw (ne_eqb byte 58 (λ e. h (omega (arith, e)))) (rw (none_alone byte before h, none_valued byte (value_at bytes) before h) (go (begins_with 61 bytes)))
  where
    go : (t : Bool) → cond {A = Modified} t (Err (faults.BadModifier (byte ∷ bytes))) (Err (faults.BadModifier (byte ∷ bytes))) ≡ Err (faults.BadModifier (byte ∷ bytes))
    go true = refl
    go false = refl

-- a text that begins with no ASCII character holds no modifier
pub bad_letter : (text : List ℕ) (before : Modifiers) → BeginsWithout (λ byte. byte < 128) text → text ≢ [] → modified_after 0 text before ≡ Err (faults.BadModifier text)
bad_letter [] before h filled = absurd (filled refl)
bad_letter (byte ∷ bytes) before h filled = unfold_bad byte bytes before (λ low. h byte bytes refl low)

-- a fault that is bad, or out of memory
pub bad_or_none : (text : List ℕ) (fault : ExpandFault) (answer : Result Modifiers ExpandFault) → answer ≡ Err (faults.BadModifier text) → (fault ≡ faults.OutOfMemory) ⊎ (fault ≡ faults.BadModifier text) → (fault ≡ faults.OutOfMemory) ⊎ (answer ≡ Err fault)
bad_or_none text fault answer e (inl none) = inl none
bad_or_none text fault answer e (inr bad) = inr (e ∙ ap (λ f. Err f) (sym bad))

pub value_no_zero : (letter : ℕ) (bytes : List ℕ) → HasNoZero (letter ∷ 61 ∷ bytes) → HasNoZero (up_to (58 ∷ []) bytes)
value_no_zero letter bytes h = up_to_no_zero (58 ∷ []) bytes (rest_no_zero 61 bytes (61 ∷ bytes) refl (rest_no_zero letter (61 ∷ bytes) (letter ∷ 61 ∷ bytes) refl h))

pub end_after_value : (letter : ℕ) (bytes : List ℕ) → IsUtf8 (from_on (58 ∷ []) bytes) → IsShorterEnd (from_on (58 ∷ []) bytes) (letter ∷ 61 ∷ bytes)
end_after_value letter bytes utf8 = record {
  place = suc (suc (length (up_to (58 ∷ []) bytes)));
  rest_is = sym (left (58 ∷ []) bytes);
  shorter = let short : length (from_on (58 ∷ []) bytes) ≤ length bytes = subst (λ s. length s ≤ length bytes) (left (58 ∷ []) bytes) (omega (arith, length-drop (length (up_to (58 ∷ []) bytes)) bytes)) in omega (arith, short);
  utf8 = utf8;
}
