-- Whether a pair gives its feature a second value follows from the pairs before it; for the loop that seeks clashes.
use Rattle.std.proofs.Common.{◌≡◌, ℕ, suc, ◌+◌, ◌<◌, Bool, true, false, cond, not, ◌&&◌, ◌||◌, List, [], ◌∷◌, Option, Some, None, is_some, take, drop, get_or, length, refl, sym, ◌∙◌, ap, ap₂}
use Rattle.std.specs.List.{list_any}
use Rattle.std.specs.Option.{option_or, option_map_or, option_copied}
use Rattle.std.specs.Borrow.{Bor}
use Rattle.std.specs.Ordering.{nat_cmp}
use Rattle.std.specs.Cmp.Lexicographic.{slice_cmp}
use Rattle.std.specs.FinMap.{FinMap, get, insert}
use Rattle.std.specs.Str.{bytes_eq}
use Rattle.std.proofs.lemmas.List.Folds.{list_any-append}
use Rattle.b2_features.specs.declared.attribute.Attribute.TheVariants.{Free}
use Rattle.b2_features.specs.Table.{DeclaredFeature}
use Rattle.b2_features.specs.Faults.{is_with}
use Rattle.b2_features.proofs.NewValuesKeepAllApart.{get_put}
use Rattle.b2_props.specs.Sets.{Pair, value_of}
use Rattle.b2_props.proofs.DraftHoldsEachGainedPair.{next_take}
use Rattle.b2_props.proofs.RepeatedPairsAddNothing.{value_of-append, text_is, text_itself, option_or-none}
use Rattle.b2_property_texts.specs.Clashes.{is_second_value}
use Rattle.b2_property_texts.proofs.ReadingStopsAtFirstFault.{around}

module _ (table : List DeclaredFeature) (pairs : List Pair) (i : ℕ) (p : Pair) (within : i < length pairs) (is : p ≡ get_or pairs i p) where
  -- the first value of the feature is that of the pairs before this one, or else its own
  first_value : value_of pairs p.0 ≡ option_or (value_of (take i pairs) p.0) (Some p.1)
  first_value =
      ap (λ ps. value_of ps p.0) (around pairs i p within is) ∙ value_of-append (take i pairs) (p ∷ drop (suc i) pairs) p.0
      ∙ ap (λ b. option_or (value_of (take i pairs) p.0) (cond b (Some p.1) (value_of (drop (suc i) pairs) p.0))) (text_itself p.0)

  -- whether this one has another value follows from the pairs before it
  pub second_is : (there : Option (List ℕ)) → there ≡ value_of (take i pairs) p.0 → is_second_value table pairs p ≡ (not (is_with Free table p.0) && option_map_or (λ v. not (bytes_eq v p.1)) there false)
  second_is there e =
      ap (λ b. not (is_with Free table p.0) && b)
      (ap (λ o. option_map_or (λ v. not (bytes_eq v p.1)) o false) (first_value ∙ ap (λ o. option_or o (Some p.1)) (sym e)) ∙ own there)
    where
      own : (o : Option (List ℕ)) → option_map_or (λ v. not (bytes_eq v p.1)) (option_or o (Some p.1)) false ≡ option_map_or (λ v. not (bytes_eq v p.1)) o false
      own None = ap not (text_itself p.1)
      own (Some v) = refl

  -- the first values after this one
  pub values_next : (old new : List ℕ → Option (List ℕ)) → ((q : List ℕ) → old q ≡ value_of (take i pairs) q) → ((q : List ℕ) → new q ≡ cond (bytes_eq q p.0) (option_or (old q) (Some p.1)) (old q)) → (q : List ℕ) → new q ≡ value_of (take (i + 1) pairs) q
  values_next old new were become q =
      become q ∙ ap (λ o. cond (bytes_eq q p.0) (option_or o (Some p.1)) o) (were q) ∙ go (bytes_eq q p.0) (value_of (take i pairs) q)
      ∙ sym (value_of-append (take i pairs) (p ∷ []) q) ∙ sym (ap (λ ps. value_of ps q) (next_take pairs i p within is))
    where
      go : (b : Bool) (o : Option (List ℕ)) → cond b (option_or o (Some p.1)) o ≡ option_or o (cond b (Some p.1) None)
      go true o = refl
      go false o = sym (option_or-none o)

  -- no second value after this one
  pub single_next : list_any (is_second_value table pairs) (take i pairs) ≡ false → is_second_value table pairs p ≡ false → list_any (is_second_value table pairs) (take (i + 1) pairs) ≡ false
  single_next before here =
      ap (list_any (is_second_value table pairs)) (next_take pairs i p within is) ∙ list_any-append (is_second_value table pairs) (take i pairs) (p ∷ [])
      ∙ ap₂ (λ a b. a || (b || false)) before here

  -- this one has a second value
  pub second_found : is_second_value table pairs p ≡ true → list_any (is_second_value table pairs) pairs ≡ true
  second_found here =
      ap (list_any (is_second_value table pairs)) (around pairs i p within is) ∙ list_any-append (is_second_value table pairs) (take i pairs) (p ∷ drop (suc i) pairs)
      ∙ ap (λ b. list_any (is_second_value table pairs) (take i pairs) || (b || list_any (is_second_value table pairs) (drop (suc i) pairs))) here
      ∙ or_true (list_any (is_second_value table pairs) (take i pairs))
    where
      or_true : (a : Bool) → (a || true) ≡ true
      or_true true = refl
      or_true false = refl

-- what a look-up did not find is not there
pub not_there : (r : Option (Bor (List ℕ))) (o : Option (List ℕ)) → option_copied r ≡ o → is_some r ≡ false → o ≡ None
not_there None o e none = sym e
not_there (Some b) o e none = cc

-- a first value that is put where there was none
pub first_put : (old new : FinMap (slice_cmp nat_cmp) (List ℕ)) (p : Pair) → get old p.0 ≡ None → new ≡ insert old p.0 p.1 → (q : List ℕ) → get new q ≡ cond (bytes_eq q p.0) (option_or (get old q) (Some p.1)) (get old q)
first_put old new p none put q = ap (λ m. get m q) put ∙ get_put old p.0 p.1 q ∙ go (bytes_eq q p.0) refl
  where
    go : (b : Bool) → bytes_eq q p.0 ≡ b → cond b (Some p.1) (get old q) ≡ cond b (option_or (get old q) (Some p.1)) (get old q)
    go true e = sym (ap (λ o. option_or o (Some p.1)) (ap (get old) (text_is q p.0 e) ∙ none))
    go false e = refl

pub and_false : (a : Bool) → (a && false) ≡ false
and_false true = refl
and_false false = refl
