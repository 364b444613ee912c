-- A permutation moves each alternative to another place, where it is as viable as before, and chosen if it was.
use Rattle.std.proofs.Common.{◌≡◌, ◌≢◌, ℕ, ◌<◌, ◌≤◌, ◌==◌, true, false, cond, List, [], ◌∷◌, Option, Some, length, get_or, refl, sym, ◌∙◌, ap, ap₂, subst, ◌⊎◌, inl, inr, arith}
use Rattle.std.specs.List.{slice_get, swap}
use Rattle.std.specs.List.Sorted.{IsPermutation, apply_swaps, SwapsInRange}
use Rattle.std.specs.Option.{option_map_or}
use Rattle.std.proofs.lemmas.Bool.{cases_eq, cases_lt, eq-eqb, ne_eqb}
use Rattle.std.proofs.lemmas.Option.{slice_get_past, slice_get-get_or}
use Rattle.std.proofs.lemmas.List.Edits.{Swapped, swapped_from_swap, length-swap}
use Rattle.b2_props.specs.Sets.{Pair}
use Rattle.b2_props.specs.Membership.{has_all}
use Rattle.b2_refine.specs.Choices.{is_viable, is_better, IsChosen}
use Rattle.b2_refine.proofs.BetterIsAStrictOrder.{beats}

-- one list has the elements of another at other places
pub record Rearranged (xs ys : List (List Pair)) : Type 0 where
  pub forth : ℕ → ℕ
  pub back : ℕ → ℕ
  pub forth_is : (k : ℕ) → slice_get ys (forth k) ≡ slice_get xs k
  pub back_is : (k : ℕ) → slice_get xs (back k) ≡ slice_get ys k
  pub there : (k : ℕ) → forth (back k) ≡ k

-- where an element goes when those at two places change
abbrev moved : ℕ → ℕ → ℕ → ℕ
moved a b k = cond (k == a) b (cond (k == b) a k)

moved_first : (a b k : ℕ) → k ≡ a → moved a b k ≡ b
moved_first a b k e = ap (λ t. cond t b (cond (k == b) a k)) (eq-eqb k a e)

moved_second : (a b k : ℕ) → k ≢ a → k ≡ b → moved a b k ≡ a
moved_second a b k n e = ap (λ t. cond t b (cond (k == b) a k)) (ne_eqb k a n) ∙ ap (λ t. cond t a k) (eq-eqb k b e)

moved_other : (a b k : ℕ) → k ≢ a → k ≢ b → moved a b k ≡ k
moved_other a b k n m = ap (λ t. cond t b (cond (k == b) a k)) (ne_eqb k a n) ∙ ap (λ t. cond t a k) (ne_eqb k b m)

moved_twice : (a b k : ℕ) → moved a b (moved a b k) ≡ k
moved_twice a b k = go (cases_eq k a) (cases_eq k b) (cases_eq b a)
  where
    go : (k ≡ a) ⊎ (k ≡ a → ⊥) → (k ≡ b) ⊎ (k ≡ b → ⊥) → (b ≡ a) ⊎ (b ≡ a → ⊥) → moved a b (moved a b k) ≡ k
    go (inl e) f (inl g) = ap (moved a b) (moved_first a b k e) ∙ moved_first a b b g ∙ g ∙ sym e
    go (inl e) f (inr g) = ap (moved a b) (moved_first a b k e) ∙ moved_second a b b g refl ∙ sym e
    go (inr e) (inl f) g = ap (moved a b) (moved_second a b k e f) ∙ moved_first a b a refl ∙ sym f
    go (inr e) (inr f) g = ap (moved a b) (moved_other a b k e f) ∙ moved_other a b k e f

at_place : (xs : List (List Pair)) (k : ℕ) → k < length xs → slice_get xs k ≡ Some (get_or xs k [])
at_place xs k lt = slice_get-get_or xs k [] lt

at_moved : (xs : List (List Pair)) (a b k : ℕ) → a < length xs → b < length xs → slice_get (swap xs a b) (moved a b k) ≡ slice_get xs k
at_moved xs a b k la lb = go (cases_eq k a) (cases_eq k b) (cases_lt k (length xs))
  where
    ys : List (List Pair)
    ys = swap xs a b

    size : length (swap xs a b) ≡ length xs
    size = length-swap xs a b

    swapped : Swapped (λ i. get_or xs i []) (λ i. get_or (swap xs a b) i []) a b
    swapped = swapped_from_swap xs (swap xs a b) a b [] la lb refl

    go : (k ≡ a) ⊎ (k ≡ a → ⊥) → (k ≡ b) ⊎ (k ≡ b → ⊥) → (k < length xs) ⊎ (length xs ≤ k) → slice_get (swap xs a b) (moved a b k) ≡ slice_get xs k
    go (inl e) f g = ap (slice_get (swap xs a b)) (moved_first a b k e) ∙ at_place (swap xs a b) b (omega (arith, length-swap xs a b)) ∙ ap Some swapped.1 ∙ sym (at_place xs a la) ∙ ap (slice_get xs) (sym e)
    go (inr e) (inl f) g = ap (slice_get (swap xs a b)) (moved_second a b k e f) ∙ at_place (swap xs a b) a (omega (arith, length-swap xs a b)) ∙ ap Some swapped.0 ∙ sym (at_place xs b lb) ∙ ap (slice_get xs) (sym f)
    go (inr e) (inr f) (inl lt) = ap (slice_get (swap xs a b)) (moved_other a b k e f) ∙ at_place (swap xs a b) k (omega (arith, length-swap xs a b)) ∙ ap Some (swapped.2 k e f) ∙ sym (at_place xs k lt)
    go (inr e) (inr f) (inr past) = ap (slice_get (swap xs a b)) (moved_other a b k e f) ∙ slice_get_past (swap xs a b) k (omega (arith, length-swap xs a b)) ∙ sym (slice_get_past xs k past)

one_swap : (xs : List (List Pair)) (a b : ℕ) → a < length xs → b < length xs → Rearranged xs (swap xs a b)
one_swap xs a b la lb = record {
  forth = moved a b;
  back = moved a b;
  forth_is = λ k. at_moved xs a b k la lb;
  back_is = λ k. sym (at_moved xs a b (moved a b k) la lb) ∙ ap (slice_get (swap xs a b)) (moved_twice a b k);
  there = moved_twice a b;
}

then_rearranged : (xs ys zs : List (List Pair)) → Rearranged xs ys → Rearranged ys zs → Rearranged xs zs
then_rearranged xs ys zs first second = record {
  forth = λ k. second.forth (first.forth k);
  back = λ k. first.back (second.back k);
  forth_is = λ k. second.forth_is (first.forth k) ∙ first.forth_is k;
  back_is = λ k. first.back_is (second.back k) ∙ second.back_is k;
  there = λ k. ap second.forth (first.there (second.back k)) ∙ second.there k;
}

length-swaps : (xs : List (List Pair)) (moves : List (ℕ × ℕ)) → length (apply_swaps xs moves) ≡ length xs
length-swaps xs [] = refl
length-swaps xs (p ∷ moves) = length-swap (apply_swaps xs moves) p.0 p.1 ∙ length-swaps xs moves

swaps_rearrange : (xs : List (List Pair)) (moves : List (ℕ × ℕ)) → SwapsInRange (length xs) moves → Rearranged xs (apply_swaps xs moves)
swaps_rearrange xs [] below = record { forth = λ k. k; back = λ k. k; forth_is = λ k. refl; back_is = λ k. refl; there = λ k. refl }
swaps_rearrange xs (p ∷ moves) below =
    let size : length (apply_swaps xs moves) ≡ length xs = length-swaps xs moves in
    then_rearranged xs (apply_swaps xs moves) _ (swaps_rearrange xs moves below.2) (one_swap (apply_swaps xs moves) p.0 p.1 (subst (λ n. p.0 < n) (sym size) below.0) (subst (λ n. p.1 < n) (sym size) below.1))

-- a permutation is a rearrangement, and keeps the length
pub permutation_rearranges : (xs ys : List (List Pair)) → IsPermutation xs ys → Rearranged xs ys
permutation_rearranges xs ys p = subst (λ (zs : List (List Pair)). Rearranged xs zs) (sym p.is) (swaps_rearrange xs p.moves p.below)

pub permutation_length : (xs ys : List (List Pair)) → IsPermutation xs ys → length ys ≡ length xs
permutation_length xs ys p = ap length p.is ∙ length-swaps xs p.moves

-- ---- what a rearrangement keeps

module _ (full : List Pair) (xs ys : List (List Pair)) (r : Rearranged xs ys) where
  pub viable_forth : (k : ℕ) → is_viable full ys (r.forth k) ≡ is_viable full xs k
  viable_forth k = ap (λ (o : Option (List Pair)). option_map_or (has_all full) o false) (r.forth_is k)

  pub viable_back : (k : ℕ) → is_viable full xs (r.back k) ≡ is_viable full ys k
  viable_back k = ap (λ (o : Option (List Pair)). option_map_or (has_all full) o false) (r.back_is k)

  better_forth : (i k : ℕ) → is_better xs i k ≡ true → is_better ys (r.forth i) (r.forth k) ≡ true
  better_forth i k e = ap₂ beats (r.forth_is i) (r.forth_is k) ∙ e

  pub chosen_forth : (i : ℕ) → IsChosen full xs i → IsChosen full ys (r.forth i)
  chosen_forth i chosen = record {
    viable = viable_forth i ∙ chosen.viable;
    best = λ other viable differs.
        subst (λ k. is_better ys (r.forth i) k ≡ true) (r.there other)
        (better_forth i (r.back other) (chosen.best (r.back other) (viable_back other ∙ viable) (λ e. differs (sym (r.there other) ∙ ap r.forth e))));
  }
