-- Slices grow by a byte, two that meet are one, and one of a text between characters is a text: for tokens.
use Rattle.std.proofs.Common.{◌≡◌, ℕ, ◌+◌, ◌-◌, ◌<◌, ◌≤◌, List, [], ◌∷◌, ◌++◌, length, get_or, take, drop, slice_range, sym, ◌∙◌, ap, subst, arith}
use Rattle.std.proofs.lemmas.List.{take_more, take-take, get_or-drop, get_or-take, length-take, length-drop, take-append-drop, drop-take, drop-drop}
use Rattle.std.proofs.lemmas.Str.{IsUtf8-between}
use Rattle.std.specs.Str.{IsCharBoundary}
use Rattle.jam_lexer.specs.Tokens.{IsText}

-- one byte more
pub slice_more : (bytes : List ℕ) (from at : ℕ) → from ≤ at → at < length bytes → slice_range bytes from (at + 1) ≡ slice_range bytes from at ++ get_or bytes at 0 ∷ []
slice_more bytes from at order within =
    let one : at + 1 - from ≡ (at - from) + 1 = omega arith in
    let place : from + (at - from) ≡ at = omega arith in
    ap (λ n. take n (drop from bytes)) one
    ∙ take_more (drop from bytes) (at - from) 0 (omega (arith, length-drop from bytes))
    ∙ ap (λ b. take (at - from) (drop from bytes) ++ b ∷ []) (get_or-drop from bytes (at - from) 0 ∙ ap (λ i. get_or bytes i 0) place)

pub slice_none : (bytes : List ℕ) (from : ℕ) → slice_range bytes from from ≡ []
slice_none bytes from = let none : from - from ≡ 0 = omega arith in ap (λ n. take n (drop from bytes)) none

-- two pieces are one
pub slice_split : (bytes : List ℕ) (from at to : ℕ) → from ≤ at → at ≤ to → slice_range bytes from to ≡ slice_range bytes from at ++ slice_range bytes at to
slice_split bytes from at to low high =
    let n : ℕ = at - from in
    let m : ℕ = to - at in
    let whole : to - from ≡ n + m = omega arith in
    let place : from + n ≡ at = omega arith in
    ap (λ k. take k (drop from bytes)) whole
    ∙ sym (take-append-drop n (take (n + m) (drop from bytes)))
    ∙ ap (λ prefix. prefix ++ drop n (take (n + m) (drop from bytes))) (take-take n (n + m) (drop from bytes) (omega arith))
    ∙ ap (λ back. take n (drop from bytes) ++ back) (drop-take n m (drop from bytes) ∙ ap (take m) (drop-drop n from bytes ∙ ap (λ i. drop i bytes) place))

-- a piece of a text is a text
pub text_between : (bytes : List ℕ) (from to : ℕ) → IsText bytes → from ≤ to → IsCharBoundary bytes from → IsCharBoundary bytes to → IsText (slice_range bytes from to)
text_between bytes from to text order begin end = (
  IsUtf8-between bytes from to text.0 order begin end,
  λ k d short.
      let within : k < to - from = omega (arith, short, length-take (to - from) (drop from bytes)) in
      let in_text : from + k < length bytes = omega (arith, short, length-take (to - from) (drop from bytes), length-drop from bytes) in
      subst (λ b. 0 < b) (sym (get_or-take (to - from) (drop from bytes) k d within ∙ get_or-drop from bytes k d)) (text.1 (from + k) d in_text),
)
