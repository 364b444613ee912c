-- Lines counted on from an earlier place.
use Rattle.std.proofs.Common.{◌≡◌, ℕ, ◌+◌, ◌-◌, ◌<◌, ◌≤◌, ◌==◌, cond, List, [], ◌∷◌, ◌++◌, length, get_or, take, slice_range, ◌∙◌, ap, arith, count_by}
use Rattle.std.proofs.lemmas.Bool.{ne_eqb}
use Rattle.std.proofs.lemmas.List.{take_more}
use Rattle.jam_lexer.specs.Signs.{line_of}
use Rattle.jam_lexer.proofs.SlicesJoinAndStayTexts.{slice_split}
use Rattle.jam_lexer.proofs.DepthCountsOpenBraces.{count_by-append}

take_slice : (bytes : List ℕ) (from to : ℕ) → from ≤ to → take to bytes ≡ take from bytes ++ slice_range bytes from to
take_slice bytes from to order =
    let whole : to ≡ to - 0 = omega arith in
    let prefix : from - 0 ≡ from = omega arith in
    ap (λ n. take n bytes) whole ∙ slice_split bytes 0 from to (omega arith) order ∙ ap (λ n. take n bytes ++ slice_range bytes from to) prefix

pub lines_more : (bytes : List ℕ) (from to : ℕ) → from ≤ to → line_of bytes to ≡ line_of bytes from + count_by (λ byte. byte == 10) (slice_range bytes from to)
lines_more bytes from to order = omega (arith, ap (count_by (λ byte. byte == 10)) (take_slice bytes from to order) ∙ count_by-append (λ byte. byte == 10) (take from bytes) (slice_range bytes from to))

-- a byte that is no line feed keeps the line
pub line_over : (bytes : List ℕ) (at : ℕ) → at < length bytes → (get_or bytes at 0 ≡ 10 → ⊥) → line_of bytes (at + 1) ≡ line_of bytes at
line_over bytes at less other =
    let last : cond {A = ℕ} (get_or bytes at 0 == 10) 1 0 ≡ 0 = ap (λ t. cond {A = ℕ} t 1 0) (ne_eqb (get_or bytes at 0) 10 other) in
    let one : count_by (λ byte. byte == 10) (take (at + 1) bytes) ≡ count_by (λ byte. byte == 10) (take at bytes) + count_by (λ byte. byte == 10) (get_or bytes at 0 ∷ []) = ap (count_by (λ byte. byte == 10)) (take_more bytes at 0 less) ∙ count_by-append (λ byte. byte == 10) (take at bytes) (get_or bytes at 0 ∷ []) in
    omega (arith, one, last)
