-- In one round of a loop over a list what was taken grows by an item, and a search goes on or ends.
use Rattle.std.proofs.Common.{◌≡◌, ℕ, ◌+◌, ◌<◌, ◌≤◌, Bool, true, false, List, [], ◌∷◌, ◌++◌, length, get_or, take, drop, Some, None, sym, ap, ◌∙◌, append_assoc}
use Rattle.std.specs.List.{find}
use Rattle.std.proofs.lemmas.Bool.{cond-true, cond-false}
use Rattle.std.proofs.lemmas.List.{take_more, drop_more, at_drop_all}

module _ {X : Type 0} where
  pub next_taken : (xs : List X) (i : ℕ) (x : X) → i < length xs → x ≡ get_or xs i x → take (i + 1) xs ≡ take i xs ++ x ∷ []
  next_taken xs i x low is = take_more xs i x low ∙ ap (λ y. take i xs ++ y ∷ []) (sym is)

  pub next_dropped : (xs : List X) (i : ℕ) (x : X) → i < length xs → x ≡ get_or xs i x → drop i xs ≡ x ∷ drop (i + 1) xs
  next_dropped xs i x low is = drop_more xs i x low ∙ ap (λ y. y ∷ drop (i + 1) xs) (sym is)

  -- a list grows by what one more element stands for
  pub appended : {Y : Type 0} (F : List X → List Y) → ((a b : List X) → F (a ++ b) ≡ F a ++ F b) → (xs : List X) (i : ℕ) (x : X) → i < length xs → x ≡ get_or xs i x
      → (before now next : List Y) → now ≡ before ++ F (take i xs) → next ≡ now ++ F (x ∷ []) → next ≡ before ++ F (take (i + 1) xs)
  appended F law xs i x low is before now next was adds =
      adds ∙ ap (λ l. l ++ F (x ∷ [])) was ∙ append_assoc before (F (take i xs)) (F (x ∷ []))
      ∙ ap (λ l. before ++ l) (sym (law (take i xs) (x ∷ [])) ∙ ap F (sym (next_taken xs i x low is)))

  -- the first element that passes a test
  module _ (p : X → Bool) (xs : List X) (i : ℕ) where
    pub found_here : (x : X) → i < length xs → x ≡ get_or xs i x → find p (drop i xs) ≡ find p xs → p x ≡ true → Some x ≡ find p xs
    found_here x low is so_far passes = sym (cond-true (p x) (Some x) _ passes) ∙ ap (find p) (sym (next_dropped xs i x low is)) ∙ so_far

    pub found_later : (x : X) → i < length xs → x ≡ get_or xs i x → find p (drop i xs) ≡ find p xs → p x ≡ false → find p (drop (i + 1) xs) ≡ find p xs
    found_later x low is so_far fails = sym (cond-false (p x) (Some x) _ fails) ∙ ap (find p) (sym (next_dropped xs i x low is)) ∙ so_far

    pub found_nowhere : length xs ≤ i → find p (drop i xs) ≡ find p xs → None ≡ find p xs
    found_nowhere end so_far = sym (at_drop_all (find p) xs i end) ∙ so_far
