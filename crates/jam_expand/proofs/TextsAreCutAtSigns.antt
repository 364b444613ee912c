-- A text is cut before the first of some ASCII signs, where a character begins; neither part gains a zero byte.
use Rattle.std.proofs.Common.{◌≡◌, ℕ, ◌<◌, ◌≤◌, Bool, true, false, ◌||◌, eqb, ltb, suc, List, [], ◌∷◌, length, take, drop, get_or, refl, ap, sym, arith, subst, cond}
use Rattle.std.specs.List.{list_all}
use Rattle.std.specs.Str.{IsUtf8, IsCharBoundary}
use Rattle.std.proofs.lemmas.Str.{IsCharBoundary-after_ascii}
use Rattle.std.proofs.lemmas.Bool.{and_parts, true≢false, eqb-true}
use Rattle.std.proofs.lemmas.Bool.{ltb-true}
use Rattle.std.proofs.lemmas.List.Elements.{All-take, All-drop}
use Rattle.std.proofs.lemmas.Bool.{ne_eqb}
use Rattle.b2_base.specs.Bytes.{HasNoZero}
use Rattle.b2_base.specs.Numbers.{is_among}
use Rattle.jam_path.specs.Names.{begins_with}
use Rattle.jam_expand.specs.Cuts.{up_to, from_on, BeginsWithout}

pub up_to_within : (signs bytes : List ℕ) → length (up_to signs bytes) ≤ length bytes
up_to_within signs [] = omega arith
up_to_within signs (byte ∷ bytes) = go (is_among signs byte) (up_to_within signs bytes)
  where
    go : (found : Bool) → length (up_to signs bytes) ≤ length bytes → length (cond found [] (byte ∷ up_to signs bytes)) ≤ suc (length bytes)
    go true h = omega arith
    go false h = omega (arith, h)

pub taken : (signs bytes : List ℕ) → take (length (up_to signs bytes)) bytes ≡ up_to signs bytes
taken signs [] = refl
taken signs (byte ∷ bytes) = go (is_among signs byte) (taken signs bytes)
  where
    go : (found : Bool) → take (length (up_to signs bytes)) bytes ≡ up_to signs bytes → take (length (cond found [] (byte ∷ up_to signs bytes))) (byte ∷ bytes) ≡ cond found [] (byte ∷ up_to signs bytes)
    go true h = refl
    go false h = ap (λ s. byte ∷ s) h

pub left : (signs bytes : List ℕ) → drop (length (up_to signs bytes)) bytes ≡ from_on signs bytes
left signs [] = refl
left signs (byte ∷ bytes) = go (is_among signs byte) (left signs bytes)
  where
    go : (found : Bool) → drop (length (up_to signs bytes)) bytes ≡ from_on signs bytes → drop (length (cond found [] (byte ∷ up_to signs bytes))) (byte ∷ bytes) ≡ cond found (byte ∷ bytes) (from_on signs bytes)
    go true h = refl
    go false h = h

among_ascii : (signs : List ℕ) (byte : ℕ) → list_all (λ sign. ltb sign 128) signs ≡ true → is_among signs byte ≡ true → byte < 128
among_ascii [] byte all h = absurd (true≢false (sym h))
among_ascii (sign ∷ signs) byte all h = go (eqb sign byte) refl h (and_parts (ltb sign 128) (list_all (λ other. ltb other 128) signs) all) (among_ascii signs byte)
  where
    go : (t : Bool) → eqb sign byte ≡ t → (t || is_among signs byte) ≡ true → (ltb sign 128 ≡ true) × (list_all (λ other. ltb other 128) signs ≡ true) → (list_all (λ other. ltb other 128) signs ≡ true → is_among signs byte ≡ true → byte < 128) → byte < 128
    go true e h all more = subst (λ n. n < 128) (eqb-true sign byte e) (ltb-true sign 128 all.0)
    go false e h all more = more all.1 h

-- where the text is cut stands one of the signs
pub at_sign : (signs bytes : List ℕ) → list_all (λ sign. ltb sign 128) signs ≡ true → length (up_to signs bytes) < length bytes → get_or bytes (length (up_to signs bytes)) 0 < 128
at_sign signs [] all h = absurd (omega (arith, h))
at_sign signs (byte ∷ bytes) all h = go (is_among signs byte) refl h (λ l. at_sign signs bytes all l)
  where
    go : (t : Bool) → is_among signs byte ≡ t → length (cond t [] (byte ∷ up_to signs bytes)) < suc (length bytes) → (length (up_to signs bytes) < length bytes → get_or bytes (length (up_to signs bytes)) 0 < 128) → get_or (byte ∷ bytes) (length (cond t [] (byte ∷ up_to signs bytes))) 0 < 128
    go true e l more = among_ascii signs byte all e
    go false e l more = more (omega (arith, l))

pub ascii_boundary : (whole after : List ℕ) (first : ℕ) → IsUtf8 whole → whole ≡ first ∷ after → first < 128 → IsCharBoundary whole 1
ascii_boundary whole after first utf8 e low =
    let here : get_or whole 0 0 ≡ first = ap (λ s. get_or s 0 0) e in
    let room : 0 < length whole = omega (arith, ap length e) in
    IsCharBoundary-after_ascii whole 0 utf8 room (omega (arith, here, low))

-- a text that begins with no ASCII character begins with no sign
pub begins_not : (sign : ℕ) (whole : List ℕ) → BeginsWithout (λ byte. byte < 128) whole → 0 < sign → sign < 128 → begins_with sign whole ≡ false
begins_not sign [] h positive ascii = ne_eqb 0 sign (λ e. omega (arith, e, positive))
begins_not sign (byte ∷ bytes) h positive ascii = ne_eqb byte sign (λ e. h byte bytes refl (omega (arith, e, ascii)))

pub up_to_no_zero : (signs bytes : List ℕ) → HasNoZero bytes → HasNoZero (up_to signs bytes)
up_to_no_zero signs bytes h = subst HasNoZero (taken signs bytes) (All-take (λ byte. 0 < byte) (length (up_to signs bytes)) bytes h)

pub from_on_no_zero : (signs bytes : List ℕ) → HasNoZero bytes → HasNoZero (from_on signs bytes)
from_on_no_zero signs bytes h = subst HasNoZero (left signs bytes) (All-drop (λ byte. 0 < byte) (length (up_to signs bytes)) bytes h)

-- what is left after a first byte
pub rest_no_zero : (byte : ℕ) (bytes whole : List ℕ) → whole ≡ byte ∷ bytes → HasNoZero whole → HasNoZero bytes
rest_no_zero byte bytes whole e h = All-drop (λ other. 0 < other) 1 (byte ∷ bytes) (subst HasNoZero e h)
