-- A list is written as its length and then one element after the other, until all are there: for loops that write.
use Rattle.std.proofs.Common.{◌≡◌, ℕ, zero, suc, ◌+◌, ◌<◌, ◌≤◌, List, [], ◌∷◌, ◌++◌, length, get_or, take, refl, sym, ap, subst, ◌∙◌, append_assoc, inl, inr, arith}
use Rattle.std.specs.List.{flat_map}
use Rattle.std.proofs.lemmas.Bool.{cases_lt}
use Rattle.std.proofs.lemmas.List.{append-nil, take_more, get_or_default}
use Rattle.std.proofs.lemmas.List.Concat.{flat_map-append}
use Rattle.std.proofs.lemmas.List.Elements.{recursion_from_All}
use Rattle.b2_log.specs.Lines.{number}
use Rattle.b2_log.specs.Good.{IsNumber, IsCounted}

-- what a line has while elements are written at its end, and that each so far is so
pub record WrittenSo {X : Type 0} (spell : X → List ℕ) (IsSo : X → Type 0) (xs : List X) (before line : List ℕ) (i : ℕ) : Type 0 where
  pub bytes : line ≡ before ++ number (length xs) ++ flat_map spell (take i xs)
  pub each : (k : ℕ) (d : X) → k < i → IsSo (get_or xs k d)

-- one more element
pub written_more : {X : Type 0} (spell : X → List ℕ) (IsSo : X → Type 0) (xs : List X) (before line more : List ℕ) (i : ℕ) (x : X) → i < length xs → x ≡ get_or xs i x
    → WrittenSo spell IsSo xs before line i → more ≡ line ++ spell x → IsSo x → WrittenSo spell IsSo xs before more (i + 1)
written_more {X} spell IsSo xs before line more i x lt at w pushed so = record {
  bytes = rw (pushed, w.bytes, take_more xs i x lt, ← at, flat_map-append spell (take i xs) (x ∷ [])) (simp (append_assoc, append_nil_of (spell x)));
  each = λ k d below. elim (cases_lt k i) [
    | inl early ↦ w.each k d early
    | inr late ↦ let e : k ≡ i = omega arith in subst (λ (j : ℕ). IsSo (get_or xs j d)) (sym e) (subst IsSo (at ∙ get_or_default xs i x d lt) so)
  ];
}
  where
    append_nil_of : (ys : List ℕ) → ys ++ [] ≡ ys
    append_nil_of [] = refl
    append_nil_of (y ∷ ys) = ap (λ (zs : List ℕ). y ∷ zs) (append_nil_of ys)

-- all are written
pub written_all : {X : Type 0} (spell : X → List ℕ) (IsSo : X → Type 0) (xs : List X) (before line : List ℕ) (i : ℕ) → length xs ≤ i → IsNumber (length xs) → WrittenSo spell IsSo xs before line i → IsCounted IsSo xs
written_all spell IsSo xs before line i le count w = record { each = recursion_from_All IsSo xs (λ k d lt. w.each k d (omega arith)); count = count }

-- nothing is written but how many there are
pub written_start : {X : Type 0} (spell : X → List ℕ) (IsSo : X → Type 0) (xs : List X) (before line : List ℕ) (n : ℕ) → line ≡ before ++ number n → n ≡ length xs → WrittenSo spell IsSo xs before line 0
written_start spell IsSo xs before line n e same = record { bytes = e ∙ ap (λ (k : ℕ). before ++ number k) same ∙ sym (append-nil (before ++ number (length xs))); each = λ k d below. absurd (omega arith) }

-- all is written
pub written_whole : {X : Type 0} (spell : X → List ℕ) (IsSo : X → Type 0) (xs : List X) (before line : List ℕ) (i : ℕ) → length xs ≤ i → WrittenSo spell IsSo xs before line i → line ≡ before ++ (number (length xs) ++ flat_map spell xs)
written_whole {X} spell IsSo xs before line i le w = w.bytes ∙ ap (λ (ys : List X). before ++ number (length xs) ++ flat_map spell ys) (take_whole xs i le) ∙ append_assoc before (number (length xs)) (flat_map spell xs)
  where
    take_whole : (ys : List X) (k : ℕ) → length ys ≤ k → take k ys ≡ ys
    take_whole [] zero short = refl
    take_whole [] (suc k) short = refl
    take_whole (y ∷ ys) zero short = absurd (omega arith)
    take_whole (y ∷ ys) (suc k) short = ap (λ (zs : List X). y ∷ zs) (take_whole ys k (omega arith))
