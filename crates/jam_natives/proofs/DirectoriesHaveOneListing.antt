-- Two listings of a directory are equal, as both rise and have the same names: for what a search finds.
use Rattle.std.proofs.Common.{◌≡◌, ℕ, zero, suc, ◌<◌, List, [], ◌∷◌, length, get_or, refl, sym, ap₂, ◌∙◌, subst, arith, nat_cmp, ⊎_elim, ◌⊎◌, inl, inr}
use Rattle.std.specs.List.{Contains}
use Rattle.std.specs.declared.cmp.Ordering.TheVariants as orders
use Rattle.std.specs.Cmp.Lexicographic.{slice_cmp, nat_list_cmp_total}
use Rattle.std.proofs.lemmas.Cmp.{tied_itself}
use Rattle.b2_host.specs.Disks.{Folder}
use Rattle.b2_host.specs.Listings.{IsListed}

abbrev IsBelow : List ℕ → List ℕ → Type 0
IsBelow a b = slice_cmp nat_cmp a b ≡ orders.Less

-- each text is below those after it
abbrev Rises : List (List ℕ) → Type 0
Rises names = (i j : ℕ) (d : List ℕ) → i < j → j < length names → IsBelow (get_or names i d) (get_or names j d)

rises_on : (x : List ℕ) (xs : List (List ℕ)) → Rises (x ∷ xs) → Rises xs
rises_on x xs h i j d less low = h (suc i) (suc j) d (omega (arith, less)) (omega (arith, low))

not_itself : (a : List ℕ) → IsBelow a a → ⊥
not_itself a h = let clash = sym (tied_itself nat_list_cmp_total a) ∙ h in cc

-- two texts are not below each other
not_both : (a b : List ℕ) → IsBelow a b → IsBelow b a → ⊥
not_both a b h g = not_itself a (nat_list_cmp_total.trans a b a h g)

below_later : (x : List ℕ) (xs : List (List ℕ)) → Rises (x ∷ xs) → (y : List ℕ) → Contains xs y → IsBelow x y
below_later x xs h y c =
    let low : suc c.0 < suc (length xs) = omega (arith, c.1) in
    subst (IsBelow x) c.2 (h 0 (suc c.0) y (omega arith) low)

later : (x y : List ℕ) (xs : List (List ℕ)) → Contains xs y → Contains (x ∷ xs) y
later x y xs c = (suc c.0, (let low : suc c.0 < suc (length xs) = omega (arith, c.1) in low), c.2)

first : (x : List ℕ) (xs : List (List ℕ)) → Contains (x ∷ xs) x
first x xs = (0, (let low : 0 < suc (length xs) = omega arith in low), refl)

first_or_later : (x y : List ℕ) (xs : List (List ℕ)) → Contains (x ∷ xs) y → (x ≡ y) ⊎ Contains xs y
first_or_later x y xs c = go c.0 c.1 c.2
  where
    go : (k : ℕ) → k < length (x ∷ xs) → get_or (x ∷ xs) k y ≡ y → (x ≡ y) ⊎ Contains xs y
    go zero low e = inl e
    go (suc k) low e = inr (k, (let less : k < length xs = omega (arith, low) in less), e)

-- two rising lists with the same texts are one
rising_same : (xs ys : List (List ℕ)) → Rises xs → Rises ys → ((y : List ℕ) → Contains xs y → Contains ys y) → ((y : List ℕ) → Contains ys y → Contains xs y) → xs ≡ ys
rising_same [] [] left right to from = refl
rising_same [] (y ∷ ys) left right to from = let c = from y (first y ys) in absurd (omega (arith, c.1))
rising_same (x ∷ xs) [] left right to from = let c = to x (first x xs) in absurd (omega (arith, c.1))
rising_same (x ∷ xs) (y ∷ ys) left right to from =
    let heads : x ≡ y =
    ⊎_elim (λ e. sym e)
    (λ c. ⊎_elim (λ e. e) (λ d. absurd (not_both x y (below_later x xs left y d) (below_later y ys right x c))) (first_or_later x y xs (from y (first y ys))))
    (first_or_later y x ys (to x (first x xs)))
    in
    let tails : xs ≡ ys =
    rising_same xs ys (rises_on x xs left) (rises_on y ys right)
    (λ z c. ⊎_elim (λ e. absurd (not_itself x (subst (IsBelow x) (sym (heads ∙ e)) (below_later x xs left z c)))) (λ d. d) (first_or_later y z ys (to z (later x z xs c))))
    (λ z c. ⊎_elim (λ e. absurd (not_itself y (subst (IsBelow y) (sym (sym heads ∙ e)) (below_later y ys right z c)))) (λ d. d) (first_or_later x z xs (from z (later y z ys c))))
    in
    ap₂ ◌∷◌ heads tails

pub one_listing : (folder : Folder) (dir : List ℕ) (xs ys : List (List ℕ)) → IsListed folder dir xs → IsListed folder dir ys → xs ≡ ys
one_listing folder dir xs ys a b =
    rising_same xs ys a.rising b.rising (λ name c. (b.each name).1 ((a.each name).0 c)) (λ name c. (a.each name).1 ((b.each name).0 c))
