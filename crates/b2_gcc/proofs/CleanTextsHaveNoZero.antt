-- What passes the test has no zero byte, also each of many words or pairs that pass; for the tables of the toolset.
use Rattle.std.proofs.Common.{◌≡◌, ℕ, ◌<◌, true, List, [], ◌∷◌, refl}
use Rattle.std.specs.Prelude.{nat_lt}
use Rattle.std.specs.List.{All, AllByRecursion, list_all}
use Rattle.std.specs.Borrow.{Bor}
use Rattle.std.proofs.lemmas.Bool.{and_parts}
use Rattle.std.proofs.lemmas.Bool.Decides.{Decides-by_and, Decides-ltb}
use Rattle.std.proofs.lemmas.List.Elements.{All-from_recursion}
use Rattle.b2_base.specs.Bytes.{HasNoZero}
use Rattle.b2_gcc.specs.Rows.{pairs, is_clean, is_clean_pair}

-- a text that is clean has no zero byte
pub no_zero : (text : List ℕ) → is_clean text ≡ true → HasNoZero text
no_zero text e = (Decides-by_and (nat_lt 0) (λ byte. 0 < byte) is_clean (λ byte. Decides-ltb 0 byte) refl (λ _ _. refl) text).0 e

-- nor have several
pub none_zero : (words : List (List ℕ)) → list_all is_clean words ≡ true → All HasNoZero words
none_zero words e = All-from_recursion HasNoZero words (each words e)
  where
    each : (ws : List (List ℕ)) → list_all is_clean ws ≡ true → AllByRecursion HasNoZero ws
    each [] e = tt
    each (w ∷ ws) e = let parts = and_parts (is_clean w) (list_all is_clean ws) e in (no_zero w parts.0, each ws parts.1)

-- nor have both halves of several pairs
pub firsts_no_zero : (rows : List (Bor (List ℕ) × Bor (List ℕ))) → list_all is_clean_pair (pairs rows) ≡ true → All (λ pair. HasNoZero pair.0.now) rows
firsts_no_zero rows e = All-from_recursion (λ (pair : Bor (List ℕ) × Bor (List ℕ)). HasNoZero pair.0.now) rows (each rows e)
  where
    each : (ps : List (Bor (List ℕ) × Bor (List ℕ))) → list_all is_clean_pair (pairs ps) ≡ true → AllByRecursion (λ pair. HasNoZero pair.0.now) ps
    each [] e = tt
    each (p ∷ ps) e =
        let parts = and_parts (is_clean_pair (p.0.now, p.1.now)) (list_all is_clean_pair (pairs ps)) e in
        (no_zero p.0.now (and_parts (is_clean p.0.now) (is_clean p.1.now) parts.0).0, each ps parts.1)

pub seconds_no_zero : (rows : List (Bor (List ℕ) × Bor (List ℕ))) → list_all is_clean_pair (pairs rows) ≡ true → All (λ pair. HasNoZero pair.1.now) rows
seconds_no_zero rows e = All-from_recursion (λ (pair : Bor (List ℕ) × Bor (List ℕ)). HasNoZero pair.1.now) rows (each rows e)
  where
    each : (ps : List (Bor (List ℕ) × Bor (List ℕ))) → list_all is_clean_pair (pairs ps) ≡ true → AllByRecursion (λ pair. HasNoZero pair.1.now) ps
    each [] e = tt
    each (p ∷ ps) e =
        let parts = and_parts (is_clean_pair (p.0.now, p.1.now)) (list_all is_clean_pair (pairs ps)) e in
        (no_zero p.1.now (and_parts (is_clean p.0.now) (is_clean p.1.now) parts.0).1, each ps parts.1)
