-- No dot stands in the path of a source or an output of a drill, so that none is scanned.
use Rattle.std.proofs.Common.{◌≡◌, ℕ, zero, suc, ◌<◌, ◌^◌, ◌-◌, false, eqb, List, [], ◌∷◌, length, drop, codes, refl, arith}
use Rattle.std.specs.Fmt.{decimal}
use Rattle.std.specs.List.{AllByRecursion}
use Rattle.std.specs.Cmp.Lexicographic.{pointwise}
use Rattle.std.specs.Prelude.{◌==◌}
use Rattle.b2_drill.specs.Drills.{source_name}
use Rattle.b2_drill_clean.specs.Steps.{output}
use Rattle.b2_drill_text.proofs.NamesNeedNoQuotes.{IsDigit, all_digits}
use Rattle.jam_scan.specs.Scans.{has_suffix, has_one, is_scanned}

abbrev HasNoDot : List ℕ → Type 0
HasNoDot = AllByRecursion (λ b. eqb 46 b ≡ false)

dropped : (k : ℕ) (xs : List ℕ) → HasNoDot xs → HasNoDot (drop k xs)
dropped zero xs h = h
dropped (suc k) [] h = tt
dropped (suc k) (x ∷ xs) h = dropped k xs h.1

begins_otherwise : (more ys : List ℕ) → HasNoDot ys → pointwise (λ a b. a == b) (46 ∷ more) ys ≡ false
begins_otherwise more [] h = refl
begins_otherwise more (y ∷ ys) h = rw h.0 refl

ends_otherwise : (path more : List ℕ) → HasNoDot path → has_suffix path (46 ∷ more) ≡ false
unfolding has_suffix
ends_otherwise path more h = begins_otherwise more (drop (length path - length (46 ∷ more)) path) (dropped (length path - length (46 ∷ more)) path h)

not_scanned : (path : List ℕ) → HasNoDot path → is_scanned path ≡ false
unfolding has_one is_scanned
not_scanned path h =
    rw (
      ends_otherwise path (codes "c") h,
      ends_otherwise path (codes "cc") h,
      ends_otherwise path (codes "cpp") h,
      ends_otherwise path (codes "cxx") h,
      ends_otherwise path (codes "h") h,
      ends_otherwise path (codes "hh") h,
      ends_otherwise path (codes "hpp") h,
      ends_otherwise path (codes "hxx") h,
    ) refl

digit_is_no_dot : (d : ℕ) → IsDigit d → eqb 46 d ≡ false
digit_is_no_dot d h = let low : 47 < d = h.low in grind (arith, low)

no_dots : (ds : List ℕ) → AllByRecursion IsDigit ds → HasNoDot ds
no_dots [] h = tt
no_dots (d ∷ ds) h = (digit_is_no_dot d h.0, no_dots ds h.1)

pub source_is_not_scanned : (i : ℕ) → i < 2 ^ 64 → is_scanned (source_name i) ≡ false
source_is_not_scanned i small = not_scanned (source_name i) (refl, no_dots (decimal i) (all_digits i small))

pub output_is_not_scanned : (i : ℕ) → i < 2 ^ 64 → is_scanned (output i) ≡ false
output_is_not_scanned i small = not_scanned (output i) (refl, (refl, (refl, (refl, (refl, no_dots (decimal i) (all_digits i small))))))
