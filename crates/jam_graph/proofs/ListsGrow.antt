-- Lists that are made in a loop grow by what one element more gives.
use Rattle.std.proofs.Common.{◌≡◌, ℕ, ◌+◌, ◌<◌, List, [], ◌∷◌, ◌++◌, length, get_or, take, Option, Some, None, refl, sym, ap, ◌∙◌, append_assoc}
use Rattle.std.specs.List.{flat_map, filter_map, cons_option}
use Rattle.std.proofs.lemmas.List.{take_more, flat_map_more}

-- the list so far has one element more
pub taken : {X : Type 0} (xs : List X) (i : ℕ) (x : X) → i < length xs → x ≡ get_or xs i x → take i xs ++ x ∷ [] ≡ take (i + 1) xs
taken xs i x low is = ap (λ y. take i xs ++ y ∷ []) is ∙ sym (take_more xs i x low)

module _ {X A : Type 0} where
  pub flat_step : (f : X → List A) (start now next : List A) (xs : List X) (i : ℕ) (x : X) → i < length xs → x ≡ get_or xs i x → now ≡ start ++ flat_map f (take i xs) → next ≡ now ++ f x
      → next ≡ start ++ flat_map f (take (i + 1) xs)
  flat_step f start now next xs i x low is was adds =
      adds ∙ ap (λ (l : List A). l ++ f x) was ∙ flat_map_more f start (take i xs) x ∙ ap (λ (l : List X). start ++ flat_map f l) (taken xs i x low is)

  pub filter_both : (f : X → Option A) (xs ys : List X) → filter_map f (xs ++ ys) ≡ filter_map f xs ++ filter_map f ys
  filter_both f [] ys = refl
  filter_both f (x ∷ xs) ys = go (f x) (filter_both f xs ys)
    where
      go : (o : Option A) → filter_map f (xs ++ ys) ≡ filter_map f xs ++ filter_map f ys → cons_option o (filter_map f (xs ++ ys)) ≡ cons_option o (filter_map f xs) ++ filter_map f ys
      go None h = h
      go (Some a) h = ap (λ (l : List A). a ∷ l) h

  pub filter_step : (f : X → Option A) (now next : List A) (xs : List X) (i : ℕ) (x : X) → i < length xs → x ≡ get_or xs i x → now ≡ filter_map f (take i xs) → next ≡ now ++ filter_map f (x ∷ [])
      → next ≡ filter_map f (take (i + 1) xs)
  filter_step f now next xs i x low is was adds =
      adds ∙ ap (λ (l : List A). l ++ filter_map f (x ∷ [])) was ∙ sym (filter_both f (take i xs) (x ∷ [])) ∙ ap (filter_map f) (taken xs i x low is)

  -- the same behind a list that stands first
  pub filter_on : (f : X → Option A) (start now next : List A) (xs : List X) (i : ℕ) (x : X) → i < length xs → x ≡ get_or xs i x → now ≡ start ++ filter_map f (take i xs) → next ≡ now ++ filter_map f (x ∷ [])
      → next ≡ start ++ filter_map f (take (i + 1) xs)
  filter_on f start now next xs i x low is was adds =
      adds ∙ ap (λ (l : List A). l ++ filter_map f (x ∷ [])) was ∙ append_assoc start (filter_map f (take i xs)) (filter_map f (x ∷ []))
      ∙ ap (λ (l : List A). start ++ l) (sym (filter_both f (take i xs) (x ∷ [])) ∙ ap (filter_map f) (taken xs i x low is))
