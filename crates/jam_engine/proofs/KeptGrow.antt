-- Lists of which some elements are kept, in a loop.
use Rattle.std.proofs.Common.{◌≡◌, ℕ, ◌+◌, ◌<◌, Bool, true, false, cond, List, [], ◌∷◌, ◌++◌, length, get_or, take, filter, refl, sym, ap, ◌∙◌, subst, append-nil}
use Rattle.std.specs.List.{AllByRecursion}
use Rattle.jam_graph.proofs.ListsGrow.{taken}

module _ {X : Type 0} where
  pub all_more : (P : X → Type 0) (xs : List X) (i : ℕ) (x : X) → i < length xs → x ≡ get_or xs i x → AllByRecursion P (take i xs) → P x → AllByRecursion P (take (i + 1) xs)
  all_more P xs i x low is h one = subst (AllByRecursion P) (taken xs i x low is) (go (take i xs) h)
    where
      go : (ys : List X) → AllByRecursion P ys → AllByRecursion P (ys ++ x ∷ [])
      go [] k = (one, tt)
      go (y ∷ ys) k = (k.0, go ys k.1)

  filter_last : (p : X → Bool) (xs : List X) (x : X) → filter p (xs ++ x ∷ []) ≡ filter p xs ++ cond (p x) (x ∷ []) []
  filter_last p [] x = go (p x)
    where
      go : (b : Bool) → cond b (x ∷ []) [] ≡ [] ++ cond b (x ∷ []) []
      go true = refl
      go false = refl
  filter_last p (y ∷ xs) x = go (p y) (filter_last p xs x)
    where
      go : (b : Bool) → filter p (xs ++ x ∷ []) ≡ filter p xs ++ cond (p x) (x ∷ []) [] → cond b (y ∷ filter p (xs ++ x ∷ [])) (filter p (xs ++ x ∷ [])) ≡ cond b (y ∷ filter p xs) (filter p xs) ++ cond (p x) (x ∷ []) []
      go true e = ap (λ (l : List X). y ∷ l) e
      go false e = e

  pub kept_yes : (p : X → Bool) (xs : List X) (i : ℕ) (x : X) (now next : List X) → i < length xs → x ≡ get_or xs i x → p x ≡ true → now ≡ filter p (take i xs) → next ≡ now ++ x ∷ [] → next ≡ filter p (take (i + 1) xs)
  kept_yes p xs i x now next low is holds was adds =
      adds ∙ ap (λ (l : List X). l ++ x ∷ []) was ∙ ap (λ b. filter p (take i xs) ++ cond b (x ∷ []) []) (sym holds) ∙ sym (filter_last p (take i xs) x) ∙ ap (filter p) (taken xs i x low is)

  pub kept_no : (p : X → Bool) (xs : List X) (i : ℕ) (x : X) (now : List X) → i < length xs → x ≡ get_or xs i x → p x ≡ false → now ≡ filter p (take i xs) → now ≡ filter p (take (i + 1) xs)
  kept_no p xs i x now low is none was =
      was ∙ sym (append-nil (filter p (take i xs))) ∙ ap (λ b. filter p (take i xs) ++ cond b (x ∷ []) []) (sym none) ∙ sym (filter_last p (take i xs) x) ∙ ap (filter p) (taken xs i x low is)
