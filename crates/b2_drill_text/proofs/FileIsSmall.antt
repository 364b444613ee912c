-- The project file of a drill has at most 40 bytes a target, and 37 besides.
use Rattle.std.proofs.Common.{◌≡◌, ℕ, zero, suc, ◌<◌, ◌≤◌, ◌+◌, ◌*◌, ◌/◌, List, [], ◌∷◌, ◌++◌, length, codes, arith}
use Rattle.std.specs.Fmt.{decimal}
use Rattle.std.proofs.lemmas.Fmt.{length-decimal-le}
use Rattle.std.proofs.lemmas.List.{length-append}
use Rattle.b2_drill.specs.Drills.{line, source_name, target_name, sources_of, make_line, make_lines, join_line, jamroot}

pub digits : (i : ℕ) → i < 2000 → length (decimal i) ≤ 4
digits i small = length-decimal-le 4 i (omega arith) (omega (arith, small)) (omega (arith, small))

six : (a b c d e f : List ℕ) → length (((((a ++ b) ++ c) ++ d) ++ e) ++ f) ≡ length a + length b + length c + length d + length e + length f
six a b c d e f =
    omega (
      arith,
      length-append ((((a ++ b) ++ c) ++ d) ++ e) f,
      length-append (((a ++ b) ++ c) ++ d) e,
      length-append ((a ++ b) ++ c) d,
      length-append (a ++ b) c,
      length-append a b,
    )

three : (a b c : List ℕ) → length ((a ++ b) ++ c) ≡ length a + length b + length c
three a b c = omega (arith, length-append (a ++ b) c, length-append a b)

made_of : (t s : List ℕ) (k j : ℕ) → length t ≤ k → length s ≤ j → length (line (codes "make " ++ t ++ codes " : " ++ s ++ codes " : @join ;")) ≤ 19 + k + j
made_of t s k j low high = omega (arith, low, high, six (codes "make ") t (codes " : ") s (codes " : @join ;") (10 ∷ []))

two_names : (i : ℕ) → suc i < 2000 → length (sources_of (suc i)) ≤ 11
two_names i small =
    let first : length (decimal (suc i)) ≤ 4 = digits (suc i) small in
    let second : length (decimal (suc i / 2)) ≤ 4 = digits (suc i / 2) (omega (arith, small)) in
    omega (arith, first, second, three (source_name (suc i)) (codes " ") (target_name (suc i / 2)))

make_small : (i : ℕ) → i < 2000 → length (make_line i) ≤ 40
make_small zero small = let few : length (decimal 0) ≤ 4 = digits 0 small in let at_most : length (make_line 0) ≤ 19 + 5 + 5 = made_of (target_name 0) (source_name 0) 5 5 (omega (arith, few)) (omega (arith, few)) in omega (arith, at_most)
make_small (suc i) small =
    let few : length (decimal (suc i)) ≤ 4 = digits (suc i) small in
    let at_most : length (make_line (suc i)) ≤ 19 + 5 + 11 = made_of (target_name (suc i)) (sources_of (suc i)) 5 11 (omega (arith, few)) (two_names i small) in
    omega (arith, at_most)

makes_small : (n : ℕ) → n ≤ 2000 → length (make_lines n) ≤ 40 * n
unfolding make_lines
makes_small zero small = omega arith
makes_small (suc n) small = omega (arith, makes_small n (omega (arith, small)), make_small n (omega (arith, small)), length-append (make_lines n) (make_line n))

pub drill_is_small : (n : ℕ) → n ≤ 2000 → length (jamroot n) ≤ 1048576
drill_is_small n small = omega (arith, small, makes_small n small, length-append join_line (make_lines n))
