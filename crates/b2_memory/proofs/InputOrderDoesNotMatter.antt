-- Inputs with different paths may change places.
use Rattle.std.proofs.Common.{◌≡◌, ◌≢◌, ℕ, Bool, true, false, cond, List, [], ◌∷◌, ◌++◌, not, ◌⊎◌, map-id, take_while, is_lt, is_eq, nat_cmp, Ordering, Less, Equal, Greater, refl, sym, ap, ap₂, ◌∙◌, arith, inl, inr, codes}
use mathlib.Core.Path.{fun_ext}
use Rattle.std.proofs.lemmas.Bool.{cases_Bool}
use Rattle.std.proofs.lemmas.List.Sums.{fold-append}
use Rattle.std.proofs.lemmas.Map.Text.{is_eq-slice_cmp}
use Rattle.std.proofs.lemmas.Slice.Eq.{bytes_eq-Decides}
use Rattle.std.specs.Cmp.{IsStrictWeakOrder}
use Rattle.std.specs.Cmp.Lexicographic.{slice_cmp, nat_list_cmp_total}
use Rattle.std.specs.List.{fold, flat_map}
use Rattle.sha2.specs.Sha256.{sha256}
use Rattle.std.specs.Ordering.{ordering_reverse}
use Rattle.std.specs.Str.{bytes_eq}
use Rattle.b2_base.specs.Hexadecimals.{hexadecimal}
use Rattle.b2_memory.specs.Results.{words_of, bytes_named, joined, digest_line, input_text, by_path, made_by, made_of}
use Rattle.b2_memory.specs.ResultLaws.{OrderIsFree}
use Rattle.b2_base.proofs.StableSortIsInsertionSort.{insert, sorted, insert-past, insert-here}
use Rattle.b2_memory.proofs.SortingPutsInputsByPath.{below, below_ranks, map-sorted}

-- ---- the order

module _ {X : Type 0} {lt : X → X → Bool} (o : IsStrictWeakOrder lt) where
  -- two that are put into a list, the one below the other
  insert-both : (x y : X) (zs : List X) → lt x y ≡ true → insert lt x (insert lt y zs) ≡ insert lt y (insert lt x zs)
  insert-both x y [] h = insert-here lt x y [] (o.one_way x y h) ∙ sym (insert-past lt y x [] h)
  insert-both x y (z ∷ zs) h =
      let back = o.one_way x y h in
      elim (cases_Bool (lt z x)) [
        | inl low ↦
            elim (cases_Bool (lt z y)) [
              | inl both ↦
                  ap (insert lt x) (insert-past lt y z zs both) ∙ insert-past lt x z (insert lt y zs) low
                  ∙ ap (λ l. z ∷ l) (insert-both x y zs h)
                  ∙ sym (ap (insert lt y) (insert-past lt x z zs low) ∙ insert-past lt y z (insert lt x zs) both)
              | inr never ↦ let clash = sym low ∙ o.chain z y x never back in cc
            ]
        | inr here ↦
            elim (cases_Bool (lt z y)) [
              | inl past ↦
                  ap (insert lt x) (insert-past lt y z zs past) ∙ insert-here lt x z (insert lt y zs) here
                  ∙ ap (λ l. x ∷ l) (sym (insert-past lt y z zs past))
                  ∙ sym (ap (insert lt y) (insert-here lt x z zs here) ∙ insert-past lt y x (z ∷ zs) h)
              | inr stays ↦
                  ap (insert lt x) (insert-here lt y z zs stays) ∙ insert-here lt x y (z ∷ zs) back
                  ∙ ap (λ l. x ∷ l) (sym (insert-here lt y z zs stays))
                  ∙ sym (ap (insert lt y) (insert-here lt x z zs here) ∙ insert-past lt y x (z ∷ zs) h)
            ]
      ]

  sorted-prefix : (before xs ys : List X) → sorted lt xs ≡ sorted lt ys → sorted lt (before ++ xs) ≡ sorted lt (before ++ ys)
  sorted-prefix [] xs ys e = e
  sorted-prefix (z ∷ before) xs ys e = ap (insert lt z) (sorted-prefix before xs ys e)

same_path : (x y : List ℕ) → bytes_eq x y ≡ true → x ≡ y
same_path x y e = grind (arith, bytes_eq-Decides)

-- of two different paths one is below the other
apart : (x y : List ℕ) → x ≢ y → (r : Ordering) → slice_cmp nat_cmp x y ≡ r → (is_lt (slice_cmp nat_cmp x y) ≡ true) ⊎ (is_lt (slice_cmp nat_cmp y x) ≡ true)
apart x y h Less e = inl (ap is_lt e)
apart x y h Equal e = absurd (h (same_path x y (sym (is_eq-slice_cmp x y) ∙ ap is_eq e)))
apart x y h Greater e = inr (ap is_lt (nat_list_cmp_total.antisymm y x ∙ ap ordering_reverse e))

by_path-is : (xs : List (List ℕ × List ℕ)) → by_path xs ≡ sorted (below (λ i. i)) xs
by_path-is xs = sym (sym (map-id (sorted (below (λ i. i)) xs)) ∙ map-sorted (λ i. i) xs ∙ ap by_path (map-id xs))

by_path-free : (before after : List (List ℕ × List ℕ)) (x y : List ℕ × List ℕ) → x.0 ≢ y.0 → by_path (before ++ x ∷ y ∷ after) ≡ by_path (before ++ y ∷ x ∷ after)
by_path-free before after x y h =
    let o = below_ranks (λ (i : List ℕ × List ℕ). i) in
    let lt = below (λ (i : List ℕ × List ℕ). i) in
    let both : sorted lt (x ∷ y ∷ after) ≡ sorted lt (y ∷ x ∷ after) =
    elim (apart x.0 y.0 h _ refl) [
      | inl low ↦ insert-both o x y (sorted lt after) low
      | inr high ↦ sym (insert-both o y x (sorted lt after) high)
    ] in
    by_path-is (before ++ x ∷ y ∷ after) ∙ sorted-prefix o before (x ∷ y ∷ after) (y ∷ x ∷ after) both ∙ sym (by_path-is (before ++ y ∷ x ∷ after))

-- ---- names

bytes_named-free : (before after : List (List ℕ × List ℕ)) (x y : List ℕ × List ℕ) → x.0 ≢ y.0 → (name : List ℕ) → bytes_named (before ++ x ∷ y ∷ after) name ≡ bytes_named (before ++ y ∷ x ∷ after) name
bytes_named-free before after x y h name =
    let pick : List ℕ → List ℕ × List ℕ → List ℕ = λ found input. cond (bytes_eq input.0 name) input.1 found in
    let so_far = fold pick [] before in
    let both : cond (bytes_eq y.0 name) y.1 (cond (bytes_eq x.0 name) x.1 so_far) ≡ cond (bytes_eq x.0 name) x.1 (cond (bytes_eq y.0 name) y.1 so_far) =
    turn (bytes_eq y.0 name) (bytes_eq x.0 name) y.1 x.1 so_far (λ e g. h (same_path x.0 name g ∙ sym (same_path y.0 name e))) in
    fold-append pick [] before (x ∷ y ∷ after) ∙ ap (λ a. fold pick a after) both ∙ sym (fold-append pick [] before (y ∷ x ∷ after))
  where
    turn : {A : Type 0} (a b : Bool) (p q r : A) → (a ≡ true → b ≡ true → ⊥) → cond a p (cond b q r) ≡ cond b q (cond a p r)
    turn true true p q r never = absurd (never refl refl)
    turn true false p q r never = refl
    turn false true p q r never = refl
    turn false false p q r never = refl

-- ---- what is made

digested : (text out : List ℕ) (xs ys : List (List ℕ × List ℕ)) → by_path xs ≡ by_path ys → digest_line text xs out ≡ digest_line text ys out
digested text out xs ys same = ap (λ inputs. hexadecimal (sha256 (out ++ (10 ∷ (text ++ (10 ∷ flat_map input_text inputs))))) ++ (10 ∷ [])) same

made_by-free : (words : List (List ℕ)) (text out : List ℕ) (xs ys : List (List ℕ × List ℕ)) → by_path xs ≡ by_path ys → ((name : List ℕ) → bytes_named xs name ≡ bytes_named ys name) → made_by words text xs out ≡ made_by words text ys out
made_by-free [] text out xs ys same named = digested text out xs ys same
made_by-free (first ∷ more) text out xs ys same named =
    let joins : joined xs more ≡ joined ys more = ap (λ f. flat_map f (take_while (λ name. not (bytes_eq name (codes ">"))) more)) (fun_ext named) in
    ap₂ (cond (bytes_eq first (codes "cat"))) joins (digested text out xs ys same)

pub order_is_free : OrderIsFree
unfolding made_of
order_is_free text out before after x y h =
    made_by-free (words_of text) text out (before ++ x ∷ y ∷ after) (before ++ y ∷ x ∷ after) (by_path-free before after x y h) (bytes_named-free before after x y h)
