-- Nine digits fit a number, an index is cut at its dash, and its two bounded places are those of the slice it selects.
use Rattle.std.proofs.Common.{◌≡◌, ℕ, ◌<◌, ◌≤◌, ◌+◌, ◌-◌, ◌*◌, ◌^◌, min, Bool, true, false, not, ltb, suc, zero, List, [], ◌∷◌, length, take, drop, get_or, refl, ap, sym, ◌∙◌, arith, lit<}
use Rattle.std.specs.List.{list_all}
use Rattle.std.proofs.Math.Nat.{pow-suc, pow-le-pow_right}
use Rattle.std.proofs.lemmas.Bool.{and_parts}
use Rattle.std.proofs.lemmas.Bool.Decides.{nat_tests}
use Rattle.std.proofs.Math.ListN.{drop_of_length-le}
use Rattle.std.proofs.lemmas.List.{take_all, length-take}
use Rattle.std.proofs.lemmas.Bool.{ltb-true, ltb-false}
use Rattle.jam_expand.specs.Cuts.{up_to}
use Rattle.jam_expand.specs.Indexes.{is_digit, span_of, index_of}
use Rattle.jam_expand.proofs.TextsAreCutAtSigns.{taken, left}

-- a further digit makes the number at most ten times as large
pub digit_more : (value digit place : ℕ) → value < 10 ^ place → digit < 10 → value * 10 + digit < 10 ^ (place + 1)
digit_more value digit place small one = let e : place + 1 ≡ suc place = omega arith in rw (e, pow-suc 10 place) (omega (arith, small, one))

-- nine digits fit
pub digits_fit : (value place : ℕ) → value < 10 ^ place → place < 9 → value < 100000000
digits_fit value place small few = let most : 10 ^ place ≤ 10 ^ 8 = pow-le-pow_right {n = 10} (lit< tt) {i = place} {j = 8} (omega arith) in omega (arith, small, most)

drop_take : (from to : ℕ) (texts : List (List ℕ)) → from ≤ to → to ≤ length texts → take (to - from) (drop from texts) ≡ drop from (take to texts)
drop_take zero to texts h l = let e : to - 0 ≡ to = omega arith in rw e refl
drop_take (suc from) zero texts h l = absurd (omega (arith, h))
drop_take (suc from) (suc to) [] h l = absurd (omega (arith, l))
drop_take (suc from) (suc to) (text ∷ texts) h l = let e : suc to - suc from ≡ to - from = omega arith in rw e (drop_take from to texts (omega (arith, h)) (omega (arith, l)))

pub digit_at : (digits : List ℕ) (place : ℕ) → list_all is_digit digits ≡ true → place < length digits → (48 ≤ get_or digits place 0) × (get_or digits place 0 < 58)
digit_at [] place all h = absurd (omega (arith, h))
digit_at (digit ∷ digits) zero all h = is_one digit (and_parts (is_digit digit) (list_all is_digit digits) all).0
  where
    is_one : (byte : ℕ) → is_digit byte ≡ true → (48 ≤ byte) × (byte < 58)
    is_one byte e = let parts = and_parts (not (ltb byte 48)) (ltb byte 58) e in (grind (arith, nat_tests, parts.0), grind (arith, nat_tests, parts.1))
digit_at (digit ∷ digits) (suc place) all h = digit_at digits place (and_parts (is_digit digit) (list_all is_digit digits) all).1 (omega (arith, h))

take_bounded : (to : ℕ) (texts : List (List ℕ)) → take (min to (length texts)) texts ≡ take to texts
take_bounded to texts = go (ltb to (length texts)) refl
  where
    go : (t : Bool) → ltb to (length texts) ≡ t → take (min to (length texts)) texts ≡ take to texts
    go true e = let same : min to (length texts) ≡ to = omega (arith, ltb-true to (length texts) e) in rw same refl
    go false e =
        let long : length texts ≤ to = omega (arith, ltb-false to (length texts) e) in
        let same : min to (length texts) ≡ length texts = omega arith in
        rw same (take_all (length texts) texts (omega arith) ∙ sym (take_all to texts long))

drop_bounded : (from : ℕ) (texts : List (List ℕ)) (len : ℕ) → length texts ≡ len → drop (min from len) texts ≡ drop from texts
drop_bounded from texts len is = go (ltb from len) refl
  where
    go : (t : Bool) → ltb from len ≡ t → drop (min from len) texts ≡ drop from texts
    go true e = let same : min from len ≡ from = omega (arith, ltb-true from len e) in rw same refl
    go false e =
        let long : len ≤ from = omega (arith, ltb-false from len e) in
        let same : min from len ≡ len = omega arith in
        rw same (drop_of_length-le texts (omega (arith, is)) ∙ sym (drop_of_length-le texts (omega (arith, is, long))))

-- what a slice between two bounded places is
pub selected_slice : (from to : ℕ) (texts : List (List ℕ)) → take (min to (length texts) - min (from - 1) (min to (length texts))) (drop (min (from - 1) (min to (length texts))) texts) ≡ drop (from - 1) (take to texts)
selected_slice from to texts =
    drop_take (min (from - 1) (min to (length texts))) (min to (length texts)) texts (omega arith) (omega arith)
    ∙ ap (λ kept. drop (min (from - 1) (min to (length texts))) kept) (take_bounded to texts)
    ∙ drop_bounded (from - 1) (take to texts) (min to (length texts)) (length-take to texts)

-- an index is cut after its first byte, at a dash
pub index_cut : (byte : ℕ) (bytes : List ℕ) → span_of (take (length (up_to (45 ∷ []) bytes) + 1) (byte ∷ bytes)) (drop (length (up_to (45 ∷ []) bytes)) bytes) ≡ index_of (byte ∷ bytes)
index_cut byte bytes =
    let e : length (up_to (45 ∷ []) bytes) + 1 ≡ suc (length (up_to (45 ∷ []) bytes)) = omega arith in
    rw e (ap (λ first. span_of (byte ∷ first) (drop (length (up_to (45 ∷ []) bytes)) bytes)) (taken (45 ∷ []) bytes) ∙ ap (span_of (byte ∷ up_to (45 ∷ []) bytes)) (left (45 ∷ []) bytes))
