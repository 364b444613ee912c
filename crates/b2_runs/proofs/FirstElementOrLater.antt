use Rattle.std.proofs.Common.{◌≡◌, ◌≢◌, zero, suc, List, [], ◌∷◌, ◌⊎◌, inl, inr, refl, sym, subst, arith, ◌∙◌}
use Rattle.std.specs.List.{Contains, AllPairs}

pub Contains_here : {X : Type 0} (x : X) (xs : List X) → Contains (x ∷ xs) x
Contains_here x xs = (zero, omega arith, refl)

pub Contains_there : {X : Type 0} (x y : X) (xs : List X) → Contains xs y → Contains (x ∷ xs) y
Contains_there x y xs (k, h, e) = (suc k, omega arith, e)

pub Contains_cases : {X : Type 0} (x y : X) (xs : List X) → Contains (x ∷ xs) y → (x ≡ y) ⊎ Contains xs y
Contains_cases x y xs (zero, h, e) = inl e
Contains_cases x y xs (suc k, h, e) = inr (k, omega arith, e)

pub Contains_nil : {X : Type 0} (y : X) → Contains {X = X} [] y → ⊥
Contains_nil y (k, h, e) = omega arith

pub AllPairs_head : {X : Type 0} (R : X → X → Type 0) (x y : X) (xs : List X) → AllPairs R (x ∷ xs) → Contains xs y → R x y
AllPairs_head R x y xs p (k, h, e) = subst (λ z. R x z) e (p zero (suc k) y (omega arith) (omega arith))

pub AllPairs_tail : {X : Type 0} (R : X → X → Type 0) (x : X) (xs : List X) → AllPairs R (x ∷ xs) → AllPairs R xs
AllPairs_tail R x xs p i j d lt h = p (suc i) (suc j) d (omega arith) (omega arith)

-- Two lists in the same strict order with the same elements are one list.
module _ {X : Type 0} (R : X → X → Type 0) (irrefl : (x : X) → R x x → ⊥) (trans : (x y z : X) → R x y → R y z → R x z) where
  heads : (x y : X) (xs ys : List X) → AllPairs R (x ∷ xs) → AllPairs R (y ∷ ys) → (x ≡ y) ⊎ Contains xs y → (y ≡ x) ⊎ Contains ys x → x ≡ y
  heads x y xs ys p q (inl e) there = e
  heads x y xs ys p q (inr a) (inl e) = sym e
  heads x y xs ys p q (inr a) (inr c) = absurd (irrefl x (trans x y x (AllPairs_head R x y xs p a) (AllPairs_head R y x ys q c)))

  rest : (x y z : X) (xs ys : List X) → AllPairs R (x ∷ xs) → x ≡ y → Contains xs z → (y ≡ z) ⊎ Contains ys z → Contains ys z
  rest x y z xs ys p e c (inr d) = d
  rest x y z xs ys p e c (inl f) = absurd (irrefl x (subst (λ w. R x w) (sym (e ∙ f)) (AllPairs_head R x z xs p c)))

  pub same_ordered : (xs ys : List X) → AllPairs R xs → AllPairs R ys → ((x : X) → Contains xs x → Contains ys x) → ((x : X) → Contains ys x → Contains xs x) → xs ≡ ys
  same_ordered [] [] p q f g = refl
  same_ordered [] (y ∷ ys) p q f g = absurd (Contains_nil y (g y (Contains_here y ys)))
  same_ordered (x ∷ xs) [] p q f g = absurd (Contains_nil x (f x (Contains_here x xs)))
  same_ordered (x ∷ xs) (y ∷ ys) p q f g =
      let e : x ≡ y = heads x y xs ys p q (Contains_cases x y xs (g y (Contains_here y ys))) (Contains_cases y x ys (f x (Contains_here x xs))) in
      let t : xs ≡ ys = same_ordered xs ys (AllPairs_tail R x xs p) (AllPairs_tail R y ys q)
      (λ z c. rest x y z xs ys p e c (Contains_cases y z ys (f z (Contains_there x z xs c))))
      (λ z c. rest y x z ys xs q (sym e) c (Contains_cases x z xs (g z (Contains_there y z ys c)))) in
      λ i. e i ∷ t i

-- a list that is not empty has an element
pub some_element : {X : Type 0} (xs : List X) → xs ≢ [] → (x : X) × Contains xs x
some_element [] h = absurd (h refl)
some_element (x ∷ xs) h = (x, Contains_here x xs)
