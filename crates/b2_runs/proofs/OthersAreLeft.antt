use Rattle.std.proofs.Common.{◌≡◌, ℕ, zero, suc, List, [], ◌∷◌, ◌++◌, ◌⊎◌, inl, inr, sym, ap, subst, arith, Some, None, slice_get, take, drop, remove}
use Rattle.std.specs.List.{Contains, AllPairs}
use Rattle.std.proofs.lemmas.List.Elements.{All-weaker, All-contains_itself, Contains-append_cases, Contains-append_left, Contains-append_right}
use Rattle.std.proofs.lemmas.List.Kept.{AllPairs-cons}
use Rattle.b2_runs.proofs.FirstElementOrLater.{Contains_here, Contains_there, Contains_cases, Contains_nil, AllPairs_head, AllPairs_tail}

-- a list round one of its elements
pub split_at : {X : Type 0} (xs : List X) (place : ℕ) (x : X) → slice_get xs place ≡ Some x → xs ≡ take place xs ++ x ∷ drop (suc place) xs
split_at [] place x e = absurd (let f : None ≡ Some x = e in cc)
split_at (y ∷ ys) zero x e = let same : y ≡ x = (let f : Some y ≡ Some x = e in cc) in λ i. same i ∷ ys
split_at (y ∷ ys) (suc place) x e = ap (λ l. y ∷ l) (split_at ys place x e)

module _ {X : Type 0} (R : X → X → Type 0) where
  pub pairs_first : (x : X) (xs : List X) → ((y : X) → Contains xs y → R x y) → AllPairs R xs → AllPairs R (x ∷ xs)
  pairs_first x xs first rest = AllPairs-cons R x xs (All-weaker (Contains xs) (R x) first xs (All-contains_itself xs)) rest

  -- two lists of pairs, one after the other
  pub pairs_append : (xs ys : List X) → AllPairs R xs → AllPairs R ys → ((x y : X) → Contains xs x → Contains ys y → R x y) → AllPairs R (xs ++ ys)
  pairs_append [] ys p q across = q
  pairs_append (x ∷ xs) ys p q across =
      pairs_first x (xs ++ ys)
      (λ y c. elim (Contains-append_cases xs ys y c) [ inl d ↦ AllPairs_head R x y xs p d | inr d ↦ across x y (Contains_here x xs) d ])
      (pairs_append xs ys (AllPairs_tail R x xs p) q (λ z y c d. across z y (Contains_there x z xs c) d))

  pub pairs_left : (xs ys : List X) → AllPairs R (xs ++ ys) → AllPairs R xs
  pairs_left [] ys p = λ i j d lt h. absurd (omega arith)
  pairs_left (x ∷ xs) ys p = pairs_first x xs (λ y c. AllPairs_head R x y (xs ++ ys) p (Contains-append_left xs ys y c)) (pairs_left xs ys (AllPairs_tail R x (xs ++ ys) p))

  pub pairs_right : (xs ys : List X) → AllPairs R (xs ++ ys) → AllPairs R ys
  pairs_right [] ys p = p
  pairs_right (x ∷ xs) ys p = pairs_right xs ys (AllPairs_tail R x (xs ++ ys) p)

  pub pairs_across : (xs ys : List X) → AllPairs R (xs ++ ys) → (x y : X) → Contains xs x → Contains ys y → R x y
  pairs_across [] ys p x y c d = absurd (Contains_nil x c)
  pairs_across (z ∷ xs) ys p x y c d = elim (Contains_cases z x xs c) [
    | inl e ↦ subst (λ w. R w y) e (AllPairs_head R z y (xs ++ ys) p (Contains-append_right xs ys y d))
    | inr old ↦ pairs_across xs ys (AllPairs_tail R z (xs ++ ys) p) x y old d
  ]

-- What is left of a list where one of its elements, which R sets apart from the others, is taken away.
pub record TakenOut {X : Type 0} (R : X → X → Type 0) (xs left : List X) (x : X) : Type 0 where
  pub apart : AllPairs R left
  pub among : (y : X) → Contains left y → Contains xs y × (R x y ⊎ R y x)
  pub others : (y : X) → Contains xs y → (x ≡ y) ⊎ Contains left y

pub taken_out : {X : Type 0} (R : X → X → Type 0) (front back : List X) (x : X) → AllPairs R (front ++ x ∷ back) → TakenOut R (front ++ x ∷ back) (front ++ back) x
taken_out R front back x p =
    let tail = AllPairs_tail R x back (pairs_right R front (x ∷ back) p) in
    record {
      apart = pairs_append R front back (pairs_left R front (x ∷ back) p) tail (λ y z c d. pairs_across R front (x ∷ back) p y z c (Contains_there x z back d));
      among = λ y c. elim (Contains-append_cases front back y c) [
        | inl d ↦ (Contains-append_left front (x ∷ back) y d, inr (pairs_across R front (x ∷ back) p y x d (Contains_here x back)))
        | inr d ↦ (Contains-append_right front (x ∷ back) y (Contains_there x y back d), inl (AllPairs_head R x y back (pairs_right R front (x ∷ back) p) d))
      ];
      others = λ y c. elim (Contains-append_cases front (x ∷ back) y c) [
        | inl d ↦ inr (Contains-append_left front back y d)
        | inr d ↦ elim (Contains_cases x y back d) [ inl e ↦ inl e | inr old ↦ inr (Contains-append_right front back y old) ]
      ];
    }

-- the same of the element at a place
pub removed_at : {X : Type 0} (R : X → X → Type 0) (xs : List X) (place : ℕ) (x : X) → slice_get xs place ≡ Some x → AllPairs R xs → TakenOut R xs (remove xs place) x
removed_at R xs place x at p =
    let e = split_at xs place x at in
    subst (λ l. TakenOut R l (remove xs place) x) (sym e) (taken_out R (take place xs) (drop (suc place) xs) x (subst (AllPairs R) e p))

-- what is left without the element at a place was there
pub removed_among : {X : Type 0} (xs : List X) (place : ℕ) (x : X) → slice_get xs place ≡ Some x → (y : X) → Contains (remove xs place) y → Contains xs y
removed_among xs place x at y c =
    let e = split_at xs place x at in
    subst (λ l. Contains l y) (sym e) (elim (Contains-append_cases (take place xs) (drop (suc place) xs) y c) [
      | inl d ↦ Contains-append_left (take place xs) (x ∷ drop (suc place) xs) y d
      | inr d ↦ Contains-append_right (take place xs) (x ∷ drop (suc place) xs) y (Contains_there x y (drop (suc place) xs) d)
    ])
