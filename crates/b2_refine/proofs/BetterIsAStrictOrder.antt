-- Strict subsets of conditions order the alternatives; one past the end is neither viable nor better than another.
use Rattle.std.proofs.Common.{◌≡◌, ℕ, ◌<◌, ◌≤◌, Bool, true, false, not, List, [], ◌∷◌, Option, Some, None, length, get_or, refl, sym, ◌∙◌, ap, ap₂, subst, ◌⊎◌, inl, inr}
use Rattle.std.specs.List.{slice_get}
use Rattle.std.specs.Option.{option_map_or}
use Rattle.std.proofs.lemmas.Bool.{and_parts, and_from, or_cases, both_ways, not-true, not_from_false, false_from_ne_true, cases_lt}
use Rattle.std.proofs.lemmas.Option.{slice_get_past, slice_get_read}
use Rattle.b2_props.specs.Sets.{Pair, same}
use Rattle.b2_props.specs.Membership.{has, has_all}
use Rattle.b2_props.proofs.RepeatedPairsAddNothing.{same_is}
use Rattle.b2_refine.specs.Choices.{is_viable, is_better, is_strict_subset}

-- ---- subsets

has_kept : (a b : List Pair) (p : Pair) → has b p ≡ true → has_all a b ≡ true → has a p ≡ true
has_kept a [] p here all = let bad : false ≡ true = here in absurd (both_ways false refl bad)
has_kept a (q ∷ b) p here all = go (or_cases (same q p) (has b p) here) (λ later. has_kept a b p later (and_parts (has a q) (has_all a b) all).1)
  where
    go : ((same q p ≡ true) ⊎ (has b p ≡ true)) → (has b p ≡ true → has a p ≡ true) → has a p ≡ true
    go (inl e) later = subst (λ (x : Pair). has a x ≡ true) (same_is q p e) (and_parts (has a q) (has_all a b) all).0
    go (inr e) later = later e

-- what a set has all of, and what that has all of
pub subset_of_subset : (a b c : List Pair) → has_all a b ≡ true → has_all b c ≡ true → has_all a c ≡ true
subset_of_subset a b [] ab bc = refl
subset_of_subset a b (p ∷ c) ab bc =
    let parts = and_parts (has b p) (has_all b c) bc in
    and_from (has a p) (has_all a c) (has_kept a b p parts.0 ab) (subset_of_subset a b c ab parts.1)

strict_parts : (smaller larger : List Pair) → is_strict_subset smaller larger ≡ true → (has_all larger smaller ≡ true) × (has_all smaller larger ≡ false)
strict_parts smaller larger e =
    let parts = and_parts (has_all larger smaller) (not (has_all smaller larger)) e in
    (parts.0, not-true (has_all smaller larger) parts.1)

strict_trans : (a b c : List Pair) → is_strict_subset a b ≡ true → is_strict_subset b c ≡ true → is_strict_subset a c ≡ true
strict_trans a b c ab bc =
    let first = strict_parts a b ab in
    let second = strict_parts b c bc in
    and_from (has_all c a) (not (has_all a c)) (subset_of_subset c b a second.0 first.0)
    (not_from_false (has_all a c) (false_from_ne_true (has_all a c) (λ e. both_ways (has_all a b) first.1 (subset_of_subset a c b e second.0))))

strict_not_back : (a b : List Pair) → is_strict_subset a b ≡ true → is_strict_subset b a ≡ true → ⊥
strict_not_back a b ab ba = both_ways (has_all a b) (strict_parts a b ab).1 (strict_parts b a ba).0

-- ---- places

-- whether one condition, where it is there, has another strictly within
abbrev pub beats : Option (List Pair) → Option (List Pair) → Bool
beats one other = option_map_or (λ larger. option_map_or (λ smaller. is_strict_subset smaller larger) other false) one false

beats_trans : (a b c : Option (List Pair)) → beats a b ≡ true → beats b c ≡ true → beats a c ≡ true
beats_trans None b c ab bc = ab
beats_trans (Some a) None c ab bc = let bad : false ≡ true = ab in cc
beats_trans (Some a) (Some b) None ab bc = bc
beats_trans (Some a) (Some b) (Some c) ab bc = strict_trans c b a bc ab

beats_not_back : (a b : Option (List Pair)) → beats a b ≡ true → beats b a ≡ true → ⊥
beats_not_back None b ab ba = let bad : false ≡ true = ab in cc
beats_not_back (Some a) None ab ba = let bad : false ≡ true = ab in cc
beats_not_back (Some a) (Some b) ab ba = strict_not_back b a ab ba

pub better_trans : (conditions : List (List Pair)) (i k m : ℕ) → is_better conditions i k ≡ true → is_better conditions k m ≡ true → is_better conditions i m ≡ true
better_trans conditions i k m = beats_trans (slice_get conditions i) (slice_get conditions k) (slice_get conditions m)

pub better_not_back : (conditions : List (List Pair)) (i k : ℕ) → is_better conditions i k ≡ true → is_better conditions k i ≡ true → ⊥
better_not_back conditions i k = beats_not_back (slice_get conditions i) (slice_get conditions k)

-- one past the end is not better, and none is better than it
pub past_not_better : (conditions : List (List Pair)) (place other : ℕ) → length conditions ≤ place → false ≡ is_better conditions place other
past_not_better conditions place other past = sym (ap (λ o. beats o (slice_get conditions other)) (slice_get_past conditions place past))

pub not_better_than_past : (conditions : List (List Pair)) (place other : ℕ) → length conditions ≤ other → false ≡ is_better conditions place other
not_better_than_past conditions place other past = sym (ap (beats (slice_get conditions place)) (slice_get_past conditions other past) ∙ go (slice_get conditions place))
  where
    go : (o : Option (List Pair)) → beats o None ≡ false
    go None = refl
    go (Some larger) = refl

-- one with this condition is better than one with that, where that is a strict subset
pub better_where_strict : (conditions : List (List Pair)) (place other : ℕ) (larger smaller : List Pair) → place < length conditions → larger ≡ get_or conditions place larger → other < length conditions → smaller ≡ get_or conditions other smaller
    → is_strict_subset smaller larger ≡ is_better conditions place other
better_where_strict conditions place other larger smaller within is other_within other_is =
    sym (ap₂ beats (slice_get_read conditions (length conditions) place larger refl within is) (slice_get_read conditions (length conditions) other smaller refl other_within other_is))

-- one past the end is not viable, any other where the set has its condition
pub past_not_viable : (full : List Pair) (conditions : List (List Pair)) (place : ℕ) → length conditions ≤ place → false ≡ is_viable full conditions place
past_not_viable full conditions place past = sym (ap (λ o. option_map_or (has_all full) o false) (slice_get_past conditions place past))

pub viable_where_met : (full : List Pair) (conditions : List (List Pair)) (place : ℕ) (condition : List Pair) → place < length conditions → condition ≡ get_or conditions place condition → has_all full condition ≡ is_viable full conditions place
viable_where_met full conditions place condition within is = sym (ap (λ o. option_map_or (has_all full) o false) (slice_get_read conditions (length conditions) place condition refl within is))

-- none past the end is viable
pub viable_within : (full : List Pair) (conditions : List (List Pair)) (place : ℕ) → is_viable full conditions place ≡ true → place < length conditions
viable_within full conditions place viable = go (cases_lt place (length conditions))
  where
    go : (place < length conditions) ⊎ (length conditions ≤ place) → place < length conditions
    go (inl within) = within
    go (inr past) = let bad : false ≡ true = past_not_viable full conditions place past ∙ viable in absurd (both_ways false refl bad)
