-- A further pair begins the group of its feature or is put at that group's end, for pairs grouped by features.
use Rattle.std.proofs.Common.{◌≡◌, ℕ, zero, suc, ◌+◌, ◌<◌, ◌≤◌, Bool, true, false, cond, not, nat_lt, List, [], ◌∷◌, ◌++◌, Option, Some, None, set, get_or, length, position, refl, sym, ◌∙◌, ap, ap₂, subst, arith}
use Rattle.std.specs.List.{position_or_len}
use Rattle.std.specs.Option.{option_or}
use Rattle.std.specs.FinMap.{get, insert}
use Rattle.std.specs.Str.{bytes_eq}
use Rattle.std.proofs.lemmas.Bool.Decides.{nat_tests}
use Rattle.std.proofs.lemmas.List.{length-set}
use Rattle.std.proofs.lemmas.List.Folds.{position_or_len-set}
use Rattle.std.proofs.lemmas.List.Sums.{fold-append, passes_at_first}
use Rattle.b2_features.proofs.ListSearchesAgree.{position-push}
use Rattle.b2_features.proofs.NewValuesKeepAllApart.{get_put}
use Rattle.b2_props.specs.Sets.{Pair}
use Rattle.b2_props.proofs.RepeatedPairsAddNothing.{text_is, option_or-none}
use Rattle.b2_references.specs.declared.groups.Groups.{Groups}
use Rattle.b2_references.specs.Grouping.{AreGroups}
use Rattle.b2_references.specs.Requests.{are_of, joined, by_feature}

-- ---- places

pub place_is : {X : Type 0} (f : X → Bool) (xs : List X) (i : ℕ) → position f xs ≡ Some i → position_or_len f xs ≡ i
place_is f xs i e = go (nat_lt (position_or_len f xs) (length xs)) e
  where
    go : (b : Bool) → cond b (Some (position_or_len f xs)) None ≡ Some i → position_or_len f xs ≡ i
    go true e = cc
    go false e = cc

pub place_within : {X : Type 0} (f : X → Bool) (xs : List X) (i : ℕ) → position f xs ≡ Some i → i < length xs
place_within f xs i e = go (nat_lt (position_or_len f xs) (length xs)) refl e
  where
    go : (b : Bool) → nat_lt (position_or_len f xs) (length xs) ≡ b → cond b (Some (position_or_len f xs)) None ≡ Some i → i < length xs
    go true t e = subst (λ (n : ℕ). n < length xs) (place_is f xs i (ap (λ b. cond b (Some (position_or_len f xs)) None) t ∙ e)) (grind (arith, nat_tests, t))
    go false t e = cc

no_place : {X : Type 0} (f : X → Bool) (xs : List X) → position f xs ≡ None → length xs ≤ position_or_len f xs
no_place f xs e = go (nat_lt (position_or_len f xs) (length xs)) refl e
  where
    go : (b : Bool) → nat_lt (position_or_len f xs) (length xs) ≡ b → cond b (Some (position_or_len f xs)) None ≡ None → length xs ≤ position_or_len f xs
    go true t e = cc
    go false t e = grind (arith, nat_tests, t)

-- ---- joining

joined_new : (groups : List (List Pair)) (p : Pair) → length groups ≤ position_or_len (are_of p.0) groups → joined groups p ≡ groups ++ (p ∷ []) ∷ []
joined_new [] p none = refl
joined_new (g ∷ more) p none = go (λ less. joined_new more p less) (are_of p.0 g) none
  where
    go : (length more ≤ position_or_len (are_of p.0) more → joined more p ≡ more ++ (p ∷ []) ∷ []) → (b : Bool) → suc (length more) ≤ cond (not b) (1 + position_or_len (are_of p.0) more) 0
        → cond b ((g ++ p ∷ []) ∷ more) (g ∷ joined more p) ≡ g ∷ more ++ (p ∷ []) ∷ []
    go again true less = absurd (omega (arith, less))
    go again false less = ap (λ gs. g ∷ gs) (again (omega (arith, less)))

joined_at : (groups : List (List Pair)) (p : Pair) (i : ℕ) → position_or_len (are_of p.0) groups ≡ i → i < length groups → joined groups p ≡ set groups i (get_or groups i [] ++ p ∷ [])
joined_at [] p i e less = absurd (omega (arith, less))
joined_at (g ∷ more) p i e less = go (λ k f l. joined_at more p k f l) (are_of p.0 g) i e less
  where
    go : ((k : ℕ) → position_or_len (are_of p.0) more ≡ k → k < length more → joined more p ≡ set more k (get_or more k [] ++ p ∷ [])) → (b : Bool) (k : ℕ) → cond (not b) (1 + position_or_len (are_of p.0) more) 0 ≡ k → k < suc (length more)
        → cond b ((g ++ p ∷ []) ∷ more) (g ∷ joined more p) ≡ set (g ∷ more) k (get_or (g ∷ more) k [] ++ p ∷ [])
    go again true zero e less = refl
    go again true (suc k) e less = absurd (omega (arith, e))
    go again false zero e less = absurd (omega (arith, e))
    go again false (suc k) e less = ap (λ gs. g ∷ gs) (again k (omega (arith, e)) (omega (arith, less)))

by_feature_push : (ps : List Pair) (p : Pair) → by_feature (ps ++ p ∷ []) ≡ joined (by_feature ps) p
by_feature_push ps p = fold-append joined [] ps (p ∷ [])

-- one more pair changes no list's feature
same_feature : (feature other : List ℕ) (g : List Pair) (p : Pair) → are_of other g ≡ true → are_of feature (g ++ p ∷ []) ≡ are_of feature g
same_feature feature other [] p e = cc
same_feature feature other (q ∷ g) p e = refl

same_places : (feature : List ℕ) (groups : List (List Pair)) (i : ℕ) (g : List Pair) → are_of feature g ≡ are_of feature (get_or groups i []) → position (are_of feature) (set groups i g) ≡ position (are_of feature) groups
same_places feature groups i g e = ap₂ (λ (n l : ℕ). cond (nat_lt n l) (Some n) None) (position_or_len-set (are_of feature) groups i g [] e) (length-set groups i g)

-- ---- groups

module _ (ps : List Pair) (p : Pair) (old new : Groups) (are : AreGroups ps old) where
  -- the first pair of a feature
  pub groups_begin : get old.places p.0 ≡ None → new.lists.items ≡ old.lists.items ++ (p ∷ []) ∷ [] → new.places ≡ insert old.places p.0 (length old.lists.items) → AreGroups (ps ++ p ∷ []) new
  groups_begin none lists places = record {
    lists = lists ∙ sym (joined_new old.lists.items p (no_place (are_of p.0) old.lists.items absent)) ∙ ap (λ gs. joined gs p) are.lists ∙ sym (by_feature_push ps p);
    places = λ feature.
        ap (λ m. get m feature) places ∙ get_put old.places p.0 (length old.lists.items) feature ∙ go feature (bytes_eq feature p.0) refl
        ∙ sym (ap (position (are_of feature)) lists ∙ position-push (are_of feature) old.lists.items (p ∷ []));
  }
    where
      absent : position (are_of p.0) old.lists.items ≡ None
      absent = sym (are.places p.0) ∙ none

      go : (feature : List ℕ) (b : Bool) → bytes_eq feature p.0 ≡ b → cond b (Some (length old.lists.items)) (get old.places feature) ≡ option_or (position (are_of feature) old.lists.items) (cond (bytes_eq feature p.0) (Some (length old.lists.items)) None)
      go feature true e = sym (ap₂ (λ (o : Option ℕ) (b : Bool). option_or o (cond b (Some (length old.lists.items)) None)) (ap (λ f. position (are_of f) old.lists.items) (text_is feature p.0 e) ∙ absent) e)
      go feature false e = are.places feature ∙ sym (ap (λ b. option_or (position (are_of feature) old.lists.items) (cond b (Some (length old.lists.items)) None)) e ∙ option_or-none (position (are_of feature) old.lists.items))

  -- one more pair of a feature that is there
  pub groups_join : (i : ℕ) (g : List Pair) → get old.places p.0 ≡ Some i → g ≡ get_or old.lists.items i g → new.lists.items ≡ set old.lists.items i (g ++ p ∷ []) → new.places ≡ old.places → AreGroups (ps ++ p ∷ []) new
  groups_join i g found read lists places = record {
    lists = whole ∙ sym (joined_at old.lists.items p i first within) ∙ ap (λ gs. joined gs p) are.lists ∙ sym (by_feature_push ps p);
    places = λ feature. ap (λ m. get m feature) places ∙ are.places feature ∙ sym (ap (position (are_of feature)) whole ∙ same_places feature old.lists.items i (get_or old.lists.items i [] ++ p ∷ []) (same_feature feature p.0 (get_or old.lists.items i []) p here));
  }
    where
      at : position (are_of p.0) old.lists.items ≡ Some i
      at = sym (are.places p.0) ∙ found

      first : position_or_len (are_of p.0) old.lists.items ≡ i
      first = place_is (are_of p.0) old.lists.items i at

      within : i < length old.lists.items
      within = place_within (are_of p.0) old.lists.items i at

      same : (xs : List (List Pair)) (k : ℕ) (d e : List Pair) → k < length xs → get_or xs k d ≡ get_or xs k e
      same [] k d e less = absurd (omega (arith, less))
      same (x ∷ xs) zero d e less = refl
      same (x ∷ xs) (suc k) d e less = same xs k d e (omega (arith, less))

      whole : new.lists.items ≡ set old.lists.items i (get_or old.lists.items i [] ++ p ∷ [])
      whole = lists ∙ ap (λ x. set old.lists.items i (x ++ p ∷ [])) (read ∙ same old.lists.items i g [] within)

      here : are_of p.0 (get_or old.lists.items i []) ≡ true
      here = ap (λ k. are_of p.0 (get_or old.lists.items k [])) (sym first) ∙ passes_at_first (are_of p.0) old.lists.items [] (subst (λ k. k < length old.lists.items) (sym first) within)

pub no_groups : (g : Groups) → g.lists.items ≡ [] → ((feature : List ℕ) → get g.places feature ≡ None) → AreGroups [] g
no_groups g lists places = record { lists = lists; places = λ feature. places feature ∙ sym (ap (position (are_of feature)) lists) }
