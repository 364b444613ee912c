-- The lowest place that passes a test, as one more place is looked at; for the loop over a layer.
use Rattle.std.proofs.Common.{◌≡◌, ◌==◌, ℕ, ◌+◌, ◌<◌, ◌≤◌, Bool, true, false, ◌&&◌, List, [], ◌∷◌, ◌++◌, length, take, get_or, Option, Some, None, refl, sym, ◌∙◌, ap, subst, ◌⊎◌, inl, inr, arith}
use Rattle.std.proofs.lemmas.Bool.{or_cases, or_left, or_right, both_ways, and_cases, eqb-true, eq-eqb, ltb-true, ltb-false}
use Rattle.std.proofs.lemmas.List.{take_more}
use Rattle.b2_base.specs.Numbers.{is_among}
use Rattle.b2_generators.specs.Descents.{is_below, IsLowest}
use Rattle.b2_generators.proofs.StocksFollowAddsAndMoves.{among_push}

module _ (test : ℕ → Bool) where
  -- no place was looked at
  pub lowest_none : IsLowest test [] None
  lowest_none place bad = absurd (both_ways false refl bad)

  either : (places : List ℕ) (place p : ℕ) → is_among (places ++ place ∷ []) p ≡ true → (is_among places p ≡ true) ⊎ (p ≡ place)
  either places place p here = go (or_cases (is_among places p) (place == p) (sym (among_push places place p) ∙ here))
    where
      go : (is_among places p ≡ true) ⊎ ((place == p) ≡ true) → (is_among places p ≡ true) ⊎ (p ≡ place)
      go (inl old) = inl old
      go (inr new) = inr (sym (eqb-true place p new))

  old_there : (places : List ℕ) (place p : ℕ) → is_among places p ≡ true → is_among (places ++ place ∷ []) p ≡ true
  old_there places place p here = among_push places place p ∙ or_left (is_among places p) (place == p) here

  new_there : (places : List ℕ) (place : ℕ) → is_among (places ++ place ∷ []) place ≡ true
  new_there places place = among_push places place place ∙ or_right (is_among places place) (place == place) (eq-eqb place place refl)

  -- a place that passes and lies below what was found is found
  pub lowest_changes : (places : List ℕ) (place : ℕ) (found : Option ℕ) → IsLowest test places found → test place ≡ true → is_below place found ≡ true → IsLowest test (places ++ place ∷ []) (Some place)
  lowest_changes places place None is passes below = (new_there places place, passes, λ p here t. go p t (either places place p here))
    where
      go : (p : ℕ) → test p ≡ true → (is_among places p ≡ true) ⊎ (p ≡ place) → place ≤ p
      go p t (inl old) = absurd (both_ways (test p) (is p old) t)
      go p t (inr e) = omega arith
  lowest_changes places place (Some found) is passes below = (new_there places place, passes, λ p here t. go p t (either places place p here))
    where
      less : place < found
      less = ltb-true place found below

      go : (p : ℕ) → test p ≡ true → (is_among places p ≡ true) ⊎ (p ≡ place) → place ≤ p
      go p t (inl old) = let low : found ≤ p = is.2 p old t in omega (arith, less)
      go p t (inr e) = omega arith

  -- what was found stays, where a place does not pass or lies above it
  pub lowest_stays : (places : List ℕ) (place : ℕ) (found : Option ℕ) → IsLowest test places found → (test place && is_below place found) ≡ false → IsLowest test (places ++ place ∷ []) found
  lowest_stays places place None is not = λ p here. go p (either places place p here)
    where
      fails : (b : Bool) → test place ≡ b → (b && true) ≡ false → test place ≡ false
      fails true e bad = absurd (both_ways true bad refl)
      fails false e f = e

      go : (p : ℕ) → (is_among places p ≡ true) ⊎ (p ≡ place) → test p ≡ false
      go p (inl old) = is p old
      go p (inr e) = ap test e ∙ fails (test place) refl not
  lowest_stays places place (Some found) is not = (old_there places place found is.0, is.1, λ p here t. go p t (either places place p here))
    where
      above : test place ≡ true → (test place ≡ false) ⊎ (is_below place (Some found) ≡ false) → found ≤ place
      above t (inl bad) = absurd (both_ways (test place) bad t)
      above t (inr high) = ltb-false place found high

      go : (p : ℕ) → test p ≡ true → (is_among places p ≡ true) ⊎ (p ≡ place) → found ≤ p
      go p t (inl old) = is.2 p old t
      go p t (inr e) = let high : found ≤ place = above (sym (ap test e) ∙ t) (and_cases (test place) (is_below place (Some found)) not) in omega arith

  pub lowest_changes_at : (places : List ℕ) (i : ℕ) (found : Option ℕ) → i < length places → IsLowest test (take i places) found → test (get_or places i 0) ≡ true → is_below (get_or places i 0) found ≡ true → IsLowest test (take (i + 1) places) (Some (get_or places i 0))
  lowest_changes_at places i found within is passes below = subst (λ (ps : List ℕ). IsLowest test ps (Some (get_or places i 0))) (sym (take_more places i 0 within)) (lowest_changes (take i places) (get_or places i 0) found is passes below)

  pub lowest_stays_at : (places : List ℕ) (i : ℕ) (found : Option ℕ) → i < length places → IsLowest test (take i places) found → (test (get_or places i 0) && is_below (get_or places i 0) found) ≡ false → IsLowest test (take (i + 1) places) found
  lowest_stays_at places i found within is not = subst (λ (ps : List ℕ). IsLowest test ps found) (sym (take_more places i 0 within)) (lowest_stays (take i places) (get_or places i 0) found is not)
