-- A list of generators goes down the layers just where it is a shortest chain; so the only one and the first two agree.
use Rattle.std.proofs.Common.{◌≡◌, ℕ, suc, ◌<◌, ◌≤◌, true, List, [], ◌∷◌, length, refl, sym, ◌∙◌, subst, arith}
use Rattle.std.proofs.lemmas.Bool.{and_parts}
use Rattle.b2_props.specs.Sets.{Pair}
use Rattle.b2_generators.specs.declared.generator.Generator.{Generator}
use Rattle.b2_generators.specs.Table.{has_text}
use Rattle.b2_generators.specs.Chains.{IsChain, IsShortest, IsOnlyShortest, AreFirstTwo, ids_of}
use Rattle.b2_generators.specs.Places.{is_usable_at, sources_at, targets_at, layer_at}
use Rattle.b2_generators.specs.Walks.{EndsAt, IsAway, IsAtLeast}
use Rattle.b2_generators.specs.Layers.{AreInOrder, AreLayers, IsApart}
use Rattle.b2_generators.specs.Descents.{Descends, CanGoOn, IsConnected, IsOnly, AreFirst}
use Rattle.b2_generators.proofs.ShortestWaysAreChains.{chain_ends, shortest_from_least, shortest_length}
use Rattle.b2_generators.proofs.TakenTypesAreOneFurther.{text_found, text_from, alone, alone_is, makes_parts, makes_from, next_least, first_in_layer}

module _ (generators : List Generator) (set : List Pair) (end : List ℕ) where
  -- some generators lead from one of the types
  abbrev EndsFrom : List (List ℕ) → List ℕ → Type 0
  EndsFrom types places = (type : List ℕ) × (has_text types type ≡ true) × EndsAt generators set end places type

  module _ (layers : List (List ℕ)) (order : AreInOrder generators set end layers) where
    -- what goes down the layers leads to the end
    down_ends : (places : List ℕ) (types : List (List ℕ)) → length places ≤ length layers → (type : List ℕ) × (has_text types type ≡ true) × IsAway generators set end (length places) type → Descends generators layers types places → EndsFrom types places
    down_ends [] types within away down = (away.0, away.1, none away.2.0 away.2.1 away.2.2)
      where
        none : (places : List ℕ) → EndsAt generators set end places away.0 → length places ≡ 0 → away.0 ≡ end
        none [] way size = way
        none (place ∷ places) way size = absurd (omega arith)
    down_ends (place ∷ places) types within away down =
        let given = (order (length places) (omega arith)).gives place down.0 in
        let parts = and_parts (is_usable_at generators set place) (has_text (targets_at generators place) given.0) given.1 in
        let found = text_found (has_text (sources_at generators place)) types down.1 in
        let rest = down_ends places (targets_at generators place) (omega arith) (given.0, parts.1, given.2) down.2 in
        (found.0, found.1, (rest.0, makes_from generators set place found.0 rest.0 parts.0 found.2 rest.1, rest.2))

    -- a shortest way goes down the layers
    ends_down : (places : List ℕ) (types : List (List ℕ)) (type : List ℕ) → length places ≤ length layers → has_text types type ≡ true → EndsAt generators set end places type → IsAtLeast generators set end (length places) type → Descends generators layers types places
    ends_down [] types type within here way least = tt
    ends_down (place ∷ places) types type within here way least =
        let first = first_in_layer generators set end (length places) place places (layer_at layers (length places)) type (order (length places) (omega arith)) way refl least in
        let parts = makes_parts generators set place type way.0 way.1 in (
          first.0,
          text_from (has_text (sources_at generators place)) type types here first.1,
          ends_down places (targets_at generators place) way.0 (omega arith) parts.2 way.2 (next_least generators set end (length places) place type way.0 least way.1),
        )

    -- one of the next layer takes a type that is as far away
    pub away_goes_on : (count : ℕ) (types : List (List ℕ)) (type : List ℕ) → count < length layers → has_text types type ≡ true → IsAway generators set end (suc count) type → IsAtLeast generators set end (suc count) type → CanGoOn generators layers count types
    away_goes_on count types type within here away least = go away.0 away.1 away.2
      where
        go : (places : List ℕ) → EndsAt generators set end places type → length places ≡ suc count → CanGoOn generators layers count types
        go [] way size = absurd (omega arith)
        go (place ∷ places) way size =
            let first = first_in_layer generators set end count place places (layer_at layers count) type (order count within) way (omega arith) least in
            (place, first.0, text_from (has_text (sources_at generators place)) type types here first.1)

    pub connected : IsConnected generators layers
    connected count place within here =
        let given = (order (suc count) within).gives place here in
        let parts = and_parts (is_usable_at generators set place) (has_text (targets_at generators place) given.0) given.1 in
        away_goes_on count (targets_at generators place) given.0 (omega arith) parts.1 given.2 given.3

  module _ (from : List ℕ) (layers : List (List ℕ)) (are : AreLayers generators set end from layers) where
    pub start_goes_on : (count : ℕ) → length layers ≡ suc count → CanGoOn generators layers count (from ∷ [])
    start_goes_on count size = away_goes_on layers are.order count (from ∷ []) from (omega arith) (alone from) (subst (λ n. IsAway generators set end n from) size are.away) (subst (λ n. IsAtLeast generators set end n from) size are.least)

    down_shortest : (places : List ℕ) → Descends generators layers (from ∷ []) places → length places ≡ length layers → IsShortest generators set from end places
    down_shortest places down size =
        let ends = down_ends layers are.order places (from ∷ []) (omega arith) (from, alone from, subst (λ n. IsAway generators set end n from) (sym size) are.away) down in
        let way : EndsAt generators set end places from = subst (λ (t : List ℕ). EndsAt generators set end places t) (alone_is from ends.0 ends.1) ends.2 in
        shortest_from_least generators set end from places way (subst (λ n. IsAtLeast generators set end n from) (sym size) are.least)

    shortest_size : (places : List ℕ) → IsShortest generators set from end places → length places ≡ length layers
    shortest_size places shortest = shortest_length generators set end from places are.away.0 shortest are.away.1 (subst (λ n. IsAtLeast generators set end n from) (sym are.away.2) are.least) ∙ are.away.2

    shortest_down : (places : List ℕ) → IsShortest generators set from end places → Descends generators layers (from ∷ []) places
    shortest_down places shortest =
        let size = shortest_size places shortest in
        ends_down layers are.order places (from ∷ []) from (omega arith) (alone from) (chain_ends generators set end from places shortest.chain) (subst (λ n. IsAtLeast generators set end n from) (sym size) are.least)

    -- the only list that goes down is the only shortest chain
    pub only_shortest : (places : List ℕ) (ids : List (List ℕ)) → IsOnly (Descends generators layers (from ∷ [])) (length layers) places → ids ≡ ids_of generators places → IsOnlyShortest generators set from end ids
    only_shortest places ids is named = record {
      places = places;
      shortest = down_shortest places is.has is.size;
      only = λ other shortest. is.only other (shortest_down other shortest) (shortest_size other shortest);
      named = named;
    }

    -- the first two that go down are the first two of the shortest chains
    pub first_two : (one two : List ℕ) (first second : List (List ℕ)) → AreFirst (Descends generators layers (from ∷ [])) (length layers) one two → first ≡ ids_of generators one → second ≡ ids_of generators two → AreFirstTwo generators set from end first second
    first_two one two first second are' first_named second_named = record {
      one = one;
      two = two;
      one_shortest = down_shortest one are'.has are'.size;
      two_shortest = down_shortest two are'.also are'.same_size;
      order = are'.order;
      others = λ other shortest. are'.others other (shortest_down other shortest) (shortest_size other shortest);
      first_named = first_named;
      second_named = second_named;
    }

  -- where nothing leads to the end there is no chain
  pub apart_no_chain : (from : List ℕ) → IsApart generators set end from → (places : List ℕ) → IsChain generators set from end places → ⊥
  apart_no_chain from apart places chain = apart places (chain_ends generators set end from places chain)
