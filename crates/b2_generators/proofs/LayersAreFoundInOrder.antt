-- Layer after layer is taken, one further from the end each time, until one takes the type or is empty.
use Rattle.std.proofs.Common.{◌≡◌, ℕ, suc, ◌+◌, ◌<◌, ◌≤◌, Bool, true, false, cond, ◌||◌, List, [], ◌∷◌, ◌++◌, length, refl, sym, ◌∙◌, ap, subst, ◌⊎◌, inl, inr, arith}
use Rattle.std.specs.Str.{bytes_eq}
use Rattle.std.proofs.lemmas.Bool.{or_cases, or_left, or_right, both_ways, cases_lt}
use Rattle.std.proofs.lemmas.List.{get_or_append_left, get_or_push, length_push}
use Rattle.b2_base.specs.Numbers.{is_among}
use Rattle.b2_props.specs.Sets.{Pair}
use Rattle.b2_props.proofs.RepeatedPairsAddNothing.{text_is, text_itself}
use Rattle.b2_generators.specs.declared.generator.Generator.{Generator}
use Rattle.b2_generators.specs.Places.{gives_at, is_taken_by, layer_at}
use Rattle.b2_generators.specs.Walks.{EndsAt, IsAway, IsAtLeast}
use Rattle.b2_generators.specs.Layers.{Givers, stock, AreAll, Moves, IsLayer, AreInOrder, AreLayers, IsApart}
use Rattle.b2_generators.proofs.TakenTypesAreOneFurther.{taken_away, away_taken, not_taken, empty_layer, apart_least}

-- what is left once the layers up to one of them are there: the generators that give types which are further away
pub record IsLeft (generators : List Generator) (set : List Pair) (end : List ℕ) (count : ℕ) (givers : Givers) : Type 0 where
  pub sound : (type : List ℕ) (place : ℕ) → is_among (stock givers type) place ≡ true → gives_at generators set place type ≡ true
  pub here : (type : List ℕ) (place : ℕ) → gives_at generators set place type ≡ true → (is_among (stock givers type) place ≡ true) ⊎ ((places : List ℕ) × EndsAt generators set end places type × (length places ≤ count))
  pub far : (type : List ℕ) (place : ℕ) → is_among (stock givers type) place ≡ true → IsAtLeast generators set end (suc count) type

-- ---- what was moved

-- what is left at a type that was not taken
pub stays_there : (taken : List ℕ → Bool) (old new : Givers) (before after : List ℕ) (type : List ℕ) → Moves taken old new before after → taken type ≡ false → stock new type ≡ stock old type
stays_there taken old new before after type moved free = moved.stocks type ∙ ap (λ b. cond b [] (stock old type)) free

-- what stands at a type was not taken, and stood there
pub left_there : (taken : List ℕ → Bool) (old new : Givers) (before after : List ℕ) (type : List ℕ) (place : ℕ) → Moves taken old new before after → is_among (stock new type) place ≡ true → (taken type ≡ false) × (is_among (stock old type) place ≡ true)
left_there taken old new before after type place moved here = go (taken type) refl
  where
    go : (b : Bool) → taken type ≡ b → (taken type ≡ false) × (is_among (stock old type) place ≡ true)
    go true e = absurd (both_ways false refl (subst (λ (ps : List ℕ). is_among ps place ≡ true) (moved.stocks type ∙ ap (λ b. cond b [] (stock old type)) e) here))
    go false e = (e, subst (λ (ps : List ℕ). is_among ps place ≡ true) (stays_there taken old new before after type moved e) here)

-- what was moved at once, and then at other types
pub moved_both : (first second both : List ℕ → Bool) (a b c : Givers) (before mid after : List ℕ) → ((type : List ℕ) → both type ≡ (first type || second type)) → Moves first a b before mid → Moves second b c mid after → Moves both a c before after
moved_both first second both a b c before mid after joined one two = record {
  stocks = λ type. two.stocks type ∙ ap (cond (second type) []) (one.stocks type) ∙ twice (first type) (second type) (stock a type) ∙ ap (λ t. cond t [] (stock a type)) (sym (joined type));
  stays = λ place here. two.stays place (one.stays place here);
  comes = λ type place taken here. came type place here (first type) refl (or_cases (first type) (second type) (sym (joined type) ∙ taken));
  only = λ place here. source place (two.only place here);
}
  where
    twice : (p q : Bool) (xs : List ℕ) → cond q [] (cond p [] xs) ≡ cond (p || q) [] xs
    twice true true xs = refl
    twice true false xs = refl
    twice false true xs = refl
    twice false false xs = refl

    came : (type : List ℕ) (place : ℕ) → is_among (stock a type) place ≡ true → (b' : Bool) → first type ≡ b' → (first type ≡ true) ⊎ (second type ≡ true) → is_among after place ≡ true
    came type place here true e either = two.stays place (one.comes type place e here)
    came type place here false e (inl bad) = absurd (both_ways (first type) e bad)
    came type place here false e (inr f) = two.comes type place f (subst (λ (ps : List ℕ). is_among ps place ≡ true) (sym (stays_there first a b before mid type one e)) here)

    source : (place : ℕ) → (is_among mid place ≡ true) ⊎ ((type : List ℕ) × (second type ≡ true) × (is_among (stock b type) place ≡ true)) → (is_among before place ≡ true) ⊎ ((type : List ℕ) × (both type ≡ true) × (is_among (stock a type) place ≡ true))
    source place (inl here) = early (one.only place here)
      where
        early : (is_among before place ≡ true) ⊎ ((type : List ℕ) × (first type ≡ true) × (is_among (stock a type) place ≡ true)) → (is_among before place ≡ true) ⊎ ((type : List ℕ) × (both type ≡ true) × (is_among (stock a type) place ≡ true))
        early (inl first) = inl first
        early (inr w) = inr (w.0, joined w.0 ∙ or_left (first w.0) (second w.0) w.1, w.2)
    source place (inr w) = inr (w.0, joined w.0 ∙ or_right (first w.0) (second w.0) w.1, (left_there first a b before mid w.0 place one w.2).1)

-- nothing was moved
pub moved_none : (taken : List ℕ → Bool) (givers : Givers) (places : List ℕ) → ((type : List ℕ) → taken type ≡ false) → Moves taken givers givers places places
moved_none taken givers places none = record {
  stocks = λ type. sym (ap (λ b. cond b [] (stock givers type)) (none type));
  stays = λ place here. here;
  comes = λ type place bad here. absurd (both_ways (taken type) (none type) bad);
  only = λ place here. inl here;
}

-- ---- the layers

module _ (generators : List Generator) (set : List Pair) (end : List ℕ) where
  none_is : (places : List ℕ) (type : List ℕ) → EndsAt generators set end places type → length places ≡ 0 → type ≡ end
  none_is [] type way size = way
  none_is (place ∷ places) type way size = absurd (omega arith)

  -- what gives the end is layer 0
  pub first_layer : (all left : Givers) (layer : List ℕ) → AreAll generators set all → Moves (λ type. bytes_eq type end) all left [] layer → IsLayer generators set end 0 layer
  first_layer all left layer are moved = record {
    gives = λ place here. given place (moved.only place here);
    all = λ place type gives away least. moved.comes type place (subst (λ (t : List ℕ). bytes_eq t end ≡ true) (sym (none_is away.0 type away.1 away.2)) (text_itself end)) (are place type ∙ gives);
  }
    where
      given : (place : ℕ) → (false ≡ true) ⊎ ((type : List ℕ) × (bytes_eq type end ≡ true) × (is_among (stock all type) place ≡ true)) → (type : List ℕ) × (gives_at generators set place type ≡ true) × IsAway generators set end 0 type × IsAtLeast generators set end 0 type
      given place (inl bad) = absurd (both_ways false refl bad)
      given place (inr w) = (w.0, sym (are place w.0) ∙ w.2, ([], text_is w.0 end w.1, refl), λ other way. omega arith)

  -- and what is left gives types that are further away
  pub first_left : (all left : Givers) (layer : List ℕ) → AreAll generators set all → Moves (λ type. bytes_eq type end) all left [] layer → IsLeft generators set end 0 left
  first_left all left layer are moved = record {
    sound = λ type place here. sym (are place type) ∙ (left_there (λ t. bytes_eq t end) all left [] layer type place moved here).1;
    here = λ type place gives. go type place gives (bytes_eq type end) refl;
    far = λ type place here. further type (left_there (λ t. bytes_eq t end) all left [] layer type place moved here).0;
  }
    where
      go : (type : List ℕ) (place : ℕ) → gives_at generators set place type ≡ true → (b : Bool) → bytes_eq type end ≡ b → (is_among (stock left type) place ≡ true) ⊎ ((places : List ℕ) × EndsAt generators set end places type × (length places ≤ 0))
      go type place gives true e = inr ([], text_is type end e, omega arith)
      go type place gives false e = inl (ap (λ ps. is_among ps place) (stays_there (λ t. bytes_eq t end) all left [] layer type moved e) ∙ are place type ∙ gives)

      further : (type : List ℕ) → bytes_eq type end ≡ false → IsAtLeast generators set end 1 type
      further type free [] way = absurd (both_ways (bytes_eq type end) free (subst (λ (t : List ℕ). bytes_eq type t ≡ true) way (text_itself type)))
      further type free (place ∷ places) way = omega arith

  module _ (count : ℕ) (layer next : List ℕ) (old new : Givers) (is : IsLayer generators set end count layer) (left : IsLeft generators set end count old) (moved : Moves (is_taken_by generators layer) old new [] next) where
    -- what was taken for a layer is the next one
    pub next_layer : IsLayer generators set end (suc count) next
    next_layer = record {
      gives = λ place here. given place (moved.only place here);
      all = λ place type gives away least. among place type away least (left.here type place gives);
    }
      where
        given : (place : ℕ) → (false ≡ true) ⊎ ((type : List ℕ) × (is_taken_by generators layer type ≡ true) × (is_among (stock old type) place ≡ true)) → (type : List ℕ) × (gives_at generators set place type ≡ true) × IsAway generators set end (suc count) type × IsAtLeast generators set end (suc count) type
        given place (inl bad) = absurd (both_ways false refl bad)
        given place (inr w) = (w.0, left.sound w.0 place w.2, taken_away generators set end count layer w.0 is w.1, left.far w.0 place w.2)

        among : (place : ℕ) (type : List ℕ) → IsAway generators set end (suc count) type → IsAtLeast generators set end (suc count) type → (is_among (stock old type) place ≡ true) ⊎ ((places : List ℕ) × EndsAt generators set end places type × (length places ≤ count)) → is_among next place ≡ true
        among place type away least (inl here) = moved.comes type place (away_taken generators set end count layer type is away least) here
        among place type away least (inr near) = let bad : suc count ≤ length near.0 = least near.0 near.1 in absurd (omega (arith, near.2))

    pub next_left : IsLeft generators set end (suc count) new
    next_left = record {
      sound = λ type place here. left.sound type place (left_there (is_taken_by generators layer) old new [] next type place moved here).1;
      here = λ type place gives. go type place (is_taken_by generators layer type) refl (left.here type place gives);
      far = λ type place here.
          let there = left_there (is_taken_by generators layer) old new [] next type place moved here in
          not_taken generators set end count layer type is (left.far type place there.1) there.0;
    }
      where
        go : (type : List ℕ) (place : ℕ) (b : Bool) → is_taken_by generators layer type ≡ b → (is_among (stock old type) place ≡ true) ⊎ ((places : List ℕ) × EndsAt generators set end places type × (length places ≤ count)) → (is_among (stock new type) place ≡ true) ⊎ ((places : List ℕ) × EndsAt generators set end places type × (length places ≤ suc count))
        go type place b e (inr near) = inr (near.0, near.1, omega (arith, near.2))
        go type place true e (inl here) = let away = taken_away generators set end count layer type is e in inr (away.0, away.1, omega (arith, away.2))
        go type place false e (inl here) = inl (ap (λ ps. is_among ps place) (stays_there (is_taken_by generators layer) old new [] next type moved e) ∙ here)

  -- one layer more
  pub order_push : (layers : List (List ℕ)) (layer : List ℕ) → AreInOrder generators set end layers → IsLayer generators set end (length layers) layer → AreInOrder generators set end (layers ++ layer ∷ [])
  order_push layers layer order is count within = go (cases_lt count (length layers))
    where
      go : (count < length layers) ⊎ (length layers ≤ count) → IsLayer generators set end count (layer_at (layers ++ layer ∷ []) count)
      go (inl less) = subst (λ (ps : List ℕ). IsLayer generators set end count ps) (sym (get_or_append_left layers (layer ∷ []) [] count less)) (order count less)
      go (inr more) =
          let size : length (layers ++ layer ∷ []) ≡ length layers + 1 = length_push layers layer in
          let last : length layers ≡ count = omega arith in
          subst (λ (ps : List ℕ). IsLayer generators set end count ps) (sym (get_or_push layers layer [] count last)) (subst (λ n. IsLayer generators set end n layer) last is)

  -- where a layer takes a type from which no fewer lead, the layers up to it are those between
  pub layers_to : (from : List ℕ) (layers : List (List ℕ)) (layer : List ℕ) → AreInOrder generators set end layers → IsLayer generators set end (length layers) layer → IsAtLeast generators set end (suc (length layers)) from → is_taken_by generators layer from ≡ true → AreLayers generators set end from (layers ++ layer ∷ [])
  layers_to from layers layer order is least taken =
      let size : suc (length layers) ≡ length (layers ++ layer ∷ []) = go (length_push layers layer) in
      record {
        order = order_push layers layer order is;
        away = subst (λ n. IsAway generators set end n from) size (taken_away generators set end (length layers) layer from is taken);
        least = subst (λ n. IsAtLeast generators set end n from) size least;
      }
    where
      go : length (layers ++ layer ∷ []) ≡ length layers + 1 → suc (length layers) ≡ length (layers ++ layer ∷ [])
      go e = omega arith

  -- no layers lie between a type and itself
  pub no_layers : (from : List ℕ) → bytes_eq from end ≡ true → AreLayers generators set end from []
  no_layers from same = record {
    order = λ count within. absurd (omega arith);
    away = ([], text_is from end same, refl);
    least = λ places way. omega arith;
  }

-- ---- the search

-- the layers so far are in order, and so is the next one; a type lies beyond them
pub record HasSearched (generators : List Generator) (set : List Pair) (end from : List ℕ) (layers : List (List ℕ)) (layer : List ℕ) (givers : Givers) : Type 0 where
  pub order : AreInOrder generators set end layers
  pub is : IsLayer generators set end (length layers) layer
  pub left : IsLeft generators set end (length layers) givers
  pub far : IsAtLeast generators set end (suc (length layers)) from

module _ (generators : List Generator) (set : List Pair) (end from : List ℕ) where
  pub search_start : (layers : List (List ℕ)) (layer : List ℕ) (all left : Givers) → layers ≡ [] → AreAll generators set all → Moves (λ type. bytes_eq type end) all left [] layer → bytes_eq from end ≡ false → HasSearched generators set end from layers layer left
  search_start layers layer all left none are moved other = subst (λ (ls : List (List ℕ)). HasSearched generators set end from ls layer left) (sym none) (record {
    order = λ count within. absurd (omega arith);
    is = first_layer generators set end all left layer are moved;
    left = first_left generators set end all left layer are moved;
    far = apart_least generators set end from other;
  })

  pub search_more : (layers more : List (List ℕ)) (layer next : List ℕ) (old new : Givers) → HasSearched generators set end from layers layer old → is_taken_by generators layer from ≡ false → Moves (is_taken_by generators layer) old new [] next → more ≡ layers ++ layer ∷ [] → HasSearched generators set end from more next new
  search_more layers more layer next old new searched free moved pushed = subst (λ (ls : List (List ℕ)). HasSearched generators set end from ls next new) (sym pushed) (record {
    order = order_push generators set end layers layer searched.order searched.is;
    is = subst (λ n. IsLayer generators set end n next) size (next_layer generators set end (length layers) layer next old new searched.is searched.left moved);
    left = subst (λ n. IsLeft generators set end n new) size (next_left generators set end (length layers) layer next old new searched.is searched.left moved);
    far = subst (λ n. IsAtLeast generators set end (suc n) from) size (not_taken generators set end (length layers) layer from searched.is searched.far free);
  })
    where
      longer : length (layers ++ layer ∷ []) ≡ length layers + 1 → suc (length layers) ≡ length (layers ++ layer ∷ [])
      longer e = omega arith

      size : suc (length layers) ≡ length (layers ++ layer ∷ [])
      size = longer (length_push layers layer)

  pub search_found : (layers more : List (List ℕ)) (layer : List ℕ) (givers : Givers) → HasSearched generators set end from layers layer givers → is_taken_by generators layer from ≡ true → more ≡ layers ++ layer ∷ [] → AreLayers generators set end from more
  search_found layers more layer givers searched taken pushed = subst (λ (ls : List (List ℕ)). AreLayers generators set end from ls) (sym pushed) (layers_to generators set end from layers layer searched.order searched.is searched.far taken)

  pub search_none : (layers : List (List ℕ)) (layer : List ℕ) (givers : Givers) → HasSearched generators set end from layers layer givers → layer ≡ [] → IsApart generators set end from
  search_none layers layer givers searched none places way = empty_layer generators set end (length layers) (subst (λ (ps : List ℕ). IsLayer generators set end (length layers) ps) none searched.is) places from searched.far way

  pub no_search : (layers : List (List ℕ)) → layers ≡ [] → bytes_eq from end ≡ true → AreLayers generators set end from layers
  no_search layers none same = subst (λ (ls : List (List ℕ)). AreLayers generators set end from ls) (sym none) (no_layers generators set end from same)
