-- A letter and the digits of a number are a path in normal form: no byte is a slash, and none is zero.
use Rattle.std.proofs.Common.{◌≡◌, ◌<◌, ◌^◌, ◌%◌, ◌+◌, ℕ, false, eqb, List, [], ◌∷◌, ◌++◌, refl, ap, arith}
use Rattle.std.specs.Fmt.{decimal}
use Rattle.std.specs.List.{AllByRecursion}
use Rattle.std.proofs.lemmas.Fmt.{decimal_by_steps}
use Rattle.std.proofs.lemmas.List.Elements.{All-from_recursion}
use Rattle.std.proofs.lemmas.List.Splits.{slice_split_none}
use Rattle.b2_base.specs.Bytes.{HasNoZero}
use Rattle.b2_base.specs.Segments.{normal_of, kept, written}

IsHigh : ℕ → Type 0
IsHigh byte = 47 < byte

with_last : (ds : List ℕ) (d : ℕ) → AllByRecursion (λ b. 47 < b) ds → 47 < d → AllByRecursion (λ b. 47 < b) (ds ++ d ∷ [])
with_last [] d h low = (low, tt)
with_last (b ∷ ds) d h low = (h.0, with_last ds d h.1 low)

digits_are_high : (n : ℕ) → n < 2 ^ 64 → AllByRecursion (λ b. 47 < b) (decimal n)
digits_are_high = decimal_by_steps (λ n ds. AllByRecursion (λ b. 47 < b) ds) (λ n h. (omega arith, tt)) (λ n ds h before. with_last ds (48 + n % 10) before (omega arith))

no_zero : (ds : List ℕ) → AllByRecursion (λ b. 47 < b) ds → AllByRecursion (λ b. 0 < b) ds
no_zero [] h = tt
no_zero (b ∷ ds) h = (omega (arith, h.0), no_zero ds h.1)

no_slash : (ds : List ℕ) → AllByRecursion (λ b. 47 < b) ds → AllByRecursion (λ b. eqb b 47 ≡ false) ds
no_slash [] h = tt
no_slash (b ∷ ds) h = (grind (arith, h.0), no_slash ds h.1)

pub name_has_no_zero : (n : ℕ) → n < 2 ^ 64 → HasNoZero (115 ∷ decimal n)
name_has_no_zero n small = All-from_recursion (λ b. 0 < b) (115 ∷ decimal n) (omega arith, no_zero (decimal n) (digits_are_high n small))

one_stays : (ds : List ℕ) → AllByRecursion (λ b. eqb b 47 ≡ false) ds → normal_of (115 ∷ ds) ≡ 115 ∷ ds
one_stays ds h = ap (λ cuts. written false (kept false cuts)) (slice_split_none (λ b. eqb b 47) (115 ∷ ds) (All-from_recursion (λ b. eqb b 47 ≡ false) (115 ∷ ds) (refl, h)))

pub name_stays : (n : ℕ) → n < 2 ^ 64 → normal_of (115 ∷ decimal n) ≡ 115 ∷ decimal n
name_stays n small = one_stays (decimal n) (no_slash (decimal n) (digits_are_high n small))
