-- A stable sort gives what putting each element in its place gives: two lists that rise and have the same ties are one.
use Rattle.std.proofs.Common.{◌≡◌, ℕ, zero, suc, ◌<◌, ◌≤◌, Bool, true, false, cond, not, List, [], ◌∷◌, length, get_or, filter, refl, sym, ap, ◌∙◌, inl, inr, suc-le-suc, zero-le}
use Rattle.std.proofs.lemmas.Bool.{cond-true, cond-false, cases_Bool, and_parts, not-true}
use Rattle.std.proofs.lemmas.List.Sorted.{sorted_far}
use Rattle.std.specs.Cmp.{IsStrictWeakOrder}
use Rattle.std.specs.List.Sorted.{IsSortedBy, IsStableBy, ties}

filter-kept : {X : Type 0} (p : X → Bool) (y : X) (ys : List X) → p y ≡ true → filter p (y ∷ ys) ≡ y ∷ filter p ys
filter-kept p y ys h = cond-true _ _ _ h

filter-dropped : {X : Type 0} (p : X → Bool) (y : X) (ys : List X) → p y ≡ false → filter p (y ∷ ys) ≡ filter p ys
filter-dropped p y ys h = cond-false _ _ _ h

module _ {X : Type 0} (lt : X → X → Bool) where
  -- x before the first that is not below it
  abbrev pub insert : X → List X → List X
  insert x [] = x ∷ []
  insert x (y ∷ ys) = cond (lt y x) (y ∷ insert x ys) (x ∷ y ∷ ys)

  abbrev pub sorted : List X → List X
  sorted [] = []
  sorted (x ∷ xs) = insert x (sorted xs)

  -- none of them is below x
  abbrev AreAbove : X → List X → Type 0
  AreAbove x [] = Unit {0}
  AreAbove x (y ∷ ys) = (lt y x ≡ false) × AreAbove x ys

  abbrev Rises : List X → Type 0
  Rises [] = Unit {0}
  Rises (y ∷ ys) = AreAbove y ys × Rises ys

  pub insert-past : (x y : X) (ys : List X) → lt y x ≡ true → insert x (y ∷ ys) ≡ y ∷ insert x ys
  insert-past x y ys h = cond-true _ _ _ h

  pub insert-here : (x y : X) (ys : List X) → lt y x ≡ false → insert x (y ∷ ys) ≡ x ∷ y ∷ ys
  insert-here x y ys h = cond-false _ _ _ h

module _ {X : Type 0} {lt : X → X → Bool} (o : IsStrictWeakOrder lt) where
  not_below : (x : X) → lt x x ≡ false
  not_below x = elim (cases_Bool (lt x x)) [ inl e ↦ o.one_way x x e | inr e ↦ e ]

  tie_parts : (x y : X) → ties lt x y ≡ true → (lt x y ≡ false) × (lt y x ≡ false)
  tie_parts x y h = let parts = and_parts (not (lt x y)) (not (lt y x)) h in (not-true _ parts.0, not-true _ parts.1)

  tie_from : (x y : X) → lt x y ≡ false → lt y x ≡ false → ties lt x y ≡ true
  tie_from x y h g = rw h (rw g refl)

  -- two that tie with one are not below each other
  tied : (t x y : X) → ties lt t x ≡ true → ties lt t y ≡ true → lt y x ≡ false
  tied t x y h g = o.chain y t x (tie_parts t y g).1 (tie_parts t x h).0

  filter-insert : (t x : X) (ys : List X) → filter (ties lt t) (insert lt x ys) ≡ filter (ties lt t) (x ∷ ys)
  filter-insert t x [] = refl
  filter-insert t x (y ∷ ys) =
      let p = ties lt t in
      elim (cases_Bool (lt y x)) [
        | inr here ↦ ap (filter p) (insert-here lt x y ys here)
        | inl past ↦
            ap (filter p) (insert-past lt x y ys past)
            ∙ elim (cases_Bool (p y)) [
              | inr without ↦
                  filter-dropped p y (insert lt x ys) without ∙ filter-insert t x ys
                  ∙ ap (λ l. cond (p x) (x ∷ l) l) (sym (filter-dropped p y ys without))
              | inl with ↦
                  elim (cases_Bool (p x)) [
                    | inl both ↦ let never = sym past ∙ tied t x y both with in cc
                    | inr only ↦
                        filter-kept p y (insert lt x ys) with ∙ ap (λ l. y ∷ l) (filter-insert t x ys ∙ filter-dropped p x ys only)
                        ∙ sym (filter-dropped p x (y ∷ ys) only ∙ filter-kept p y ys with)
                  ]
            ]
      ]

  filter-sorted : (t : X) (xs : List X) → filter (ties lt t) (sorted lt xs) ≡ filter (ties lt t) xs
  filter-sorted t [] = refl
  filter-sorted t (x ∷ xs) =
      filter-insert t x (sorted lt xs) ∙ ap (λ l. cond (ties lt t x) (x ∷ l) l) (filter-sorted t xs)

  AreAbove-chain : (x y : X) (ys : List X) → lt y x ≡ false → AreAbove lt y ys → AreAbove lt x ys
  AreAbove-chain x y [] h g = tt
  AreAbove-chain x y (z ∷ zs) h g = (o.chain z y x g.0 h, AreAbove-chain x y zs h g.1)

  AreAbove-insert : (a x : X) (ys : List X) → lt x a ≡ false → AreAbove lt a ys → AreAbove lt a (insert lt x ys)
  AreAbove-insert a x [] h g = (h, tt)
  AreAbove-insert a x (y ∷ ys) h g =
      elim (cases_Bool (lt y x)) [
        | inl past ↦ rw (insert-past lt x y ys past) (g.0, AreAbove-insert a x ys h g.1)
        | inr here ↦ rw (insert-here lt x y ys here) (h, g)
      ]

  Rises-insert : (x : X) (ys : List X) → Rises lt ys → Rises lt (insert lt x ys)
  Rises-insert x [] g = (tt, tt)
  Rises-insert x (y ∷ ys) g =
      elim (cases_Bool (lt y x)) [
        | inl past ↦ rw (insert-past lt x y ys past) (AreAbove-insert y x ys (o.one_way y x past) g.0, Rises-insert x ys g.1)
        | inr here ↦ rw (insert-here lt x y ys here) ((here, AreAbove-chain x y ys here g.0), g)
      ]

  Rises-sorted : (xs : List X) → Rises lt (sorted lt xs)
  Rises-sorted [] = tt
  Rises-sorted (x ∷ xs) = Rises-insert x (sorted lt xs) (Rises-sorted xs)

  AreAbove-at : (a d : X) (ys : List X) → ((j : ℕ) → j < length ys → lt (get_or ys j d) a ≡ false) → AreAbove lt a ys
  AreAbove-at a d [] h = tt
  AreAbove-at a d (y ∷ ys) h = (h zero (suc-le-suc zero-le), AreAbove-at a d ys (λ j low. h (suc j) (suc-le-suc low)))

  Rises-at : (ys : List X) → ((i j : ℕ) (d : X) → i ≤ j → j < length ys → lt (get_or ys j d) (get_or ys i d) ≡ false) → Rises lt ys
  Rises-at [] h = tt
  Rises-at (y ∷ ys) h = (
    AreAbove-at y y ys (λ j low. h zero (suc j) y zero-le (suc-le-suc low)),
    Rises-at ys (λ i j d le low. h (suc i) (suc j) d (suc-le-suc le) (suc-le-suc low)),
  )

  -- one that ties with x is among those that are not below a
  found_above : (a x : X) (ys : List X) (w : X) (ws : List X) → AreAbove lt a ys → filter (ties lt x) ys ≡ w ∷ ws → lt x a ≡ false
  found_above a x [] w ws h e = cc
  found_above a x (y ∷ ys) w ws h e =
      elim (cases_Bool (ties lt x y)) [
        | inl with ↦ o.chain x y a (tie_parts x y with).0 h.0
        | inr without ↦ found_above a x ys w ws h.1 (sym (filter-dropped (ties lt x) y ys without) ∙ e)
      ]

  -- two lists that rise and have the same ties are one
  same_from_ties : (ys zs : List X) → Rises lt ys → Rises lt zs → ((x : X) → filter (ties lt x) ys ≡ filter (ties lt x) zs) → ys ≡ zs
  same_from_ties [] [] left right same = refl
  same_from_ties [] (z ∷ zs) left right same =
      let clash = same z ∙ filter-kept (ties lt z) z zs (tie_from z z (not_below z) (not_below z)) in cc
  same_from_ties (y ∷ ys) [] left right same =
      let clash = sym (same y) ∙ filter-kept (ties lt y) y ys (tie_from y y (not_below y) (not_below y)) in cc
  same_from_ties (y ∷ ys) (z ∷ zs) left right same =
      let at_y = filter-kept (ties lt y) y ys (tie_from y y (not_below y) (not_below y)) in
      let at_z = filter-kept (ties lt z) z zs (tie_from z z (not_below z) (not_below z)) in
      let up = found_above z y (z ∷ zs) y _ (not_below z, right.0) (sym (same y) ∙ at_y) in
      let down = found_above y z (y ∷ ys) z _ (not_below y, left.0) (same z ∙ at_z) in
      let heads = sym at_y ∙ same y ∙ filter-kept (ties lt y) z zs (tie_from y z up down) in
      let head : y ≡ z = cc in
      let tails : (x : X) → filter (ties lt x) ys ≡ filter (ties lt x) zs =
      λ x. elim (cases_Bool (ties lt x y)) [
        | inl with ↦
            let both = sym (filter-kept (ties lt x) y ys with) ∙ same x ∙ filter-kept (ties lt x) z zs (ap (ties lt x) (sym head) ∙ with) in cc
        | inr without ↦
            sym (filter-dropped (ties lt x) y ys without) ∙ same x ∙ filter-dropped (ties lt x) z zs (ap (ties lt x) (sym head) ∙ without)
      ] in
      ap (λ w. w ∷ ys) head ∙ ap (λ l. z ∷ l) (same_from_ties ys zs left.1 right.1 tails)

  pub sorted_is : (xs ys : List X) → IsSortedBy lt ys → IsStableBy lt xs ys → ys ≡ sorted lt xs
  sorted_is xs ys up stable = same_from_ties ys (sorted lt xs) (Rises-at ys (sorted_far lt o ys up)) (Rises-sorted xs) (λ x. stable x ∙ sym (filter-sorted x xs))
