-- The search keeps a favourite; where it has a rival, the first clash is the choice, and a sole alternative is chosen.
use Rattle.std.proofs.Common.{◌≡◌, ◌≢◌, ℕ, ◌<◌, ◌+◌, ◌==◌, true, false, not, ◌&&◌, List, [], ◌∷◌, Option, Some, None, length, refl, sym, ◌∙◌, subst, ◌⊎◌, inl, inr, arith, below_more}
use Rattle.std.proofs.lemmas.Bool.{and_parts, and_cases, both_ways, not-true, false_from_ne_true, cases_eq, eqb-false}
use Rattle.b2_props.specs.Sets.{Pair}
use Rattle.b2_refine.specs.Choices.{counted, is_viable, is_better, clashes, IsChosen, IsFirstClash, IsChoiceOf, IsChoice}
use Rattle.b2_refine.specs.Choosing.{improves, is_rival, IsFavourite}
use Rattle.b2_refine.specs.declared.choice.Choice.{Choice}
use Rattle.b2_refine.specs.declared.choice.Choice.TheVariants as choices
use Rattle.b2_refine.proofs.BetterIsAStrictOrder.{better_trans, better_not_back, viable_within}

module _ (full : List Pair) (conditions : List (List Pair)) where
  -- ---- the favourite

  -- the next alternative is not viable, or not better than the favourite
  pub favourite_stays : (count : ℕ) (best : Option ℕ) → IsFavourite full conditions count best → (is_viable full conditions count && improves conditions count best) ≡ false → IsFavourite full conditions (count + 1) best
  favourite_stays count None so_far not_better = below_more _ _ so_far (go (and_cases _ _ not_better))
    where
      go : ((is_viable full conditions count ≡ false) ⊎ (true ≡ false)) → is_viable full conditions count ≡ false
      go (inl e) = e
      go (inr e) = cc
  favourite_stays count (Some place) so_far not_better = (so_far.0, below_more _ _ so_far.1 (λ viable. go viable (and_cases _ _ not_better)))
    where
      go : is_viable full conditions count ≡ true → ((is_viable full conditions count ≡ false) ⊎ (is_better conditions count place ≡ false)) → is_better conditions count place ≡ false
      go viable (inl e) = absurd (both_ways _ e viable)
      go viable (inr e) = e

  -- it is viable, and better than the favourite so far
  pub favourite_changes : (count : ℕ) (best : Option ℕ) → IsFavourite full conditions count best → (is_viable full conditions count && improves conditions count best) ≡ true → IsFavourite full conditions (count + 1) (Some count)
  favourite_changes count None so_far yes_ =
      ((and_parts _ _ yes_).0, below_more _ _ (λ other below viable. absurd (both_ways _ (so_far other below) viable)) (λ viable. false_from_ne_true _ (λ e. better_not_back conditions count count e e)))
  favourite_changes count (Some place) so_far yes_ =
      let parts = and_parts (is_viable full conditions count) (is_better conditions count place) yes_ in
      (parts.0, below_more _ _ (λ other below viable. false_from_ne_true _ (λ e. both_ways _ (so_far.1 other below viable) (better_trans conditions other count place e parts.1))) (λ viable. false_from_ne_true _ (λ e. better_not_back conditions count count e e)))

  -- ---- clashes

  pub clash_parts : (i k : ℕ) → clashes full conditions i k ≡ true → (is_viable full conditions i ≡ true) × (is_viable full conditions k ≡ true) × (is_better conditions i k ≡ false) × (is_better conditions k i ≡ false)
  clash_parts i k e =
      let last = and_parts (is_viable full conditions i && is_viable full conditions k && not (is_better conditions i k)) (not (is_better conditions k i)) e in
      let next = and_parts (is_viable full conditions i && is_viable full conditions k) (not (is_better conditions i k)) last.0 in
      let first = and_parts (is_viable full conditions i) (is_viable full conditions k) next.0 in
      (first.0, first.1, not-true _ next.1, not-true _ last.1)

  -- ---- the choice

  rival_parts : (place other : ℕ) → is_rival full conditions place other ≡ true → (other ≢ place) × (is_viable full conditions other ≡ true) × (is_better conditions place other ≡ false)
  rival_parts place other e =
      let last = and_parts (not (other == place) && is_viable full conditions other) (not (is_better conditions place other)) e in
      let first = and_parts (not (other == place)) (is_viable full conditions other) last.0 in
      (eqb-false other place (not-true _ first.0), first.1, not-true _ last.1)

  -- where the favourite has a rival, none is chosen
  pub rival_none_chosen : (place other : ℕ) → IsFavourite full conditions (length conditions) (Some place) → is_rival full conditions place other ≡ true → (k : ℕ) → IsChosen full conditions k → ⊥
  rival_none_chosen place other favourite rival k chosen = go (cases_eq k place)
    where
      parts : (other ≢ place) × (is_viable full conditions other ≡ true) × (is_better conditions place other ≡ false)
      parts = rival_parts place other rival

      go : (k ≡ place) ⊎ (k ≡ place → ⊥) → ⊥
      go (inl e) = both_ways _ parts.2 (subst (λ n. is_better conditions n other ≡ true) e (chosen.best other parts.1 (λ f. parts.0 (f ∙ e))))
      go (inr differs) = both_ways _ (favourite.1 k (viable_within full conditions k chosen.viable) chosen.viable) (chosen.best place favourite.0 (λ f. differs (sym f)))

-- a sole alternative, which counts as one without a condition, is chosen
pub sole_chosen : (full : List Pair) → IsChosen full ([] ∷ []) 0
sole_chosen full = record {
  viable = refl;
  best = λ other viable differs. absurd (go other viable differs);
}
  where
    go : (other : ℕ) → is_viable full ([] ∷ []) other ≡ true → other ≢ 0 → ⊥
    go other viable differs = let within : other < 1 = viable_within full ([] ∷ []) other viable in differs (omega arith)

-- a list of one condition counts as the empty condition, and any other as itself
pub counted_sole : (conditions : List (List Pair)) → length conditions ≡ 1 → counted conditions ≡ [] ∷ []
counted_sole [] e = let bad : 0 ≡ 1 = e in absurd (omega arith)
counted_sole (c ∷ []) e = refl
counted_sole (c ∷ d ∷ more) e = absurd (omega arith)

pub counted_others : (conditions : List (List Pair)) → (length conditions ≡ 1 → ⊥) → counted conditions ≡ conditions
counted_others [] e = refl
counted_others (c ∷ []) e = absurd (e refl)
counted_others (c ∷ d ∷ more) e = refl

-- the clash that the search ends with is the choice, where the favourite has a rival
pub clash_choice : (full : List Pair) (conditions : List (List Pair)) (place other i k : ℕ) → IsFavourite full conditions (length conditions) (Some place) → is_rival full conditions place other ≡ true → IsFirstClash full conditions i k → IsChoiceOf full conditions (choices.Ambiguous (i + 1) (k + 1))
clash_choice full conditions place other i k favourite rival first =
    (rival_none_chosen full conditions place other favourite rival, (i, (k, omega arith, omega arith, first)))

-- the choice of a list that is none of one condition, and that of a sole one
pub choice_of_others : (full : List Pair) (conditions : List (List Pair)) (choice : Choice) → (length conditions ≡ 1 → ⊥) → IsChoiceOf full conditions choice → IsChoice full conditions choice
choice_of_others full conditions choice several is = subst (λ (cs : List (List Pair)). IsChoiceOf full cs choice) (sym (counted_others conditions several)) is

pub choice_of_sole : (full : List Pair) (conditions : List (List Pair)) → length conditions ≡ 1 → IsChoice full conditions (choices.One 1)
choice_of_sole full conditions sole = subst (λ (cs : List (List Pair)). IsChoiceOf full cs (choices.One 1)) (sym (counted_sole conditions sole)) (0, refl, sole_chosen full)
