-- Where generators lead to an end by a shortest way, no type is repeated on it, so it is one of the shortest chains.
use Rattle.std.proofs.Common.{◌≡◌, ℕ, suc, ◌≤◌, true, false, List, [], ◌∷◌, length, refl, sym, ◌∙◌, subst, ◌⊎◌, inl, inr, arith}
use Rattle.std.specs.Str.{bytes_eq}
use Rattle.std.proofs.lemmas.Bool.{or_cases, both_ways, false_from_ne_true}
use Rattle.b2_props.specs.Sets.{Pair}
use Rattle.b2_props.proofs.RepeatedPairsAddNothing.{text_is}
use Rattle.b2_generators.specs.declared.generator.Generator.{Generator}
use Rattle.b2_generators.specs.Table.{has_text}
use Rattle.b2_generators.specs.Chains.{Leads, last_type, HasNoRepeat, IsChain, IsShortest}
use Rattle.b2_generators.specs.Walks.{EndsAt, IsAtLeast}

module _ (generators : List Generator) (set : List Pair) (end : List ℕ) where
  ends_from_leads : (places : List ℕ) (from : List ℕ) (types : List (List ℕ)) → Leads generators set from places types → last_type from types ≡ end → EndsAt generators set end places from
  ends_from_leads [] from [] leads last = last
  ends_from_leads [] from (type ∷ types) leads last = absurd leads
  ends_from_leads (place ∷ places) from [] leads last = absurd leads
  ends_from_leads (place ∷ places) from (type ∷ types) leads last = (type, leads.0, ends_from_leads places type types leads.1 last)

  -- a chain leads to its end
  pub chain_ends : (from : List ℕ) (places : List ℕ) → IsChain generators set from end places → EndsAt generators set end places from
  chain_ends from places chain = ends_from_leads places from chain.types chain.leads chain.ends

  -- from a type that stands on the way the rest of the way leads
  rest_leads : (places : List ℕ) (from : List ℕ) (types : List (List ℕ)) (type : List ℕ) → Leads generators set from places types → last_type from types ≡ end → has_text (from ∷ types) type ≡ true → (rest : List ℕ) × (EndsAt generators set end rest type) × (length rest ≤ length places)
  rest_leads [] from [] type leads last here = go (or_cases (bytes_eq type from) false here)
    where
      go : (bytes_eq type from ≡ true) ⊎ (false ≡ true) → (rest : List ℕ) × (EndsAt generators set end rest type) × (length rest ≤ 0)
      go (inl e) = ([], text_is type from e ∙ last, omega arith)
      go (inr bad) = absurd (both_ways false refl bad)
  rest_leads [] from (t ∷ types) type leads last here = absurd leads
  rest_leads (place ∷ places) from [] type leads last here = absurd leads
  rest_leads (place ∷ places) from (t ∷ types) type leads last here = go (or_cases (bytes_eq type from) (has_text (t ∷ types) type) here) (λ later. rest_leads places t types type leads.1 last later)
    where
      go : (bytes_eq type from ≡ true) ⊎ (has_text (t ∷ types) type ≡ true) → (has_text (t ∷ types) type ≡ true → (rest : List ℕ) × (EndsAt generators set end rest type) × (length rest ≤ length places)) → (rest : List ℕ) × (EndsAt generators set end rest type) × (length rest ≤ length (place ∷ places))
      go (inl e) later = (place ∷ places, subst (λ (x : List ℕ). EndsAt generators set end (place ∷ places) x) (sym (text_is type from e)) (ends_from_leads (place ∷ places) from (t ∷ types) leads last), omega arith)
      go (inr f) later = let r = later f in (r.0, r.1, omega (arith, r.2))

  -- along a shortest way no type is repeated
  least_once : (places : List ℕ) (from : List ℕ) (types : List (List ℕ)) → Leads generators set from places types → last_type from types ≡ end → IsAtLeast generators set end (length places) from → HasNoRepeat (from ∷ types)
  least_once [] from [] leads last least = (refl, tt)
  least_once [] from (type ∷ types) leads last least = absurd leads
  least_once (place ∷ places) from [] leads last least = absurd leads
  least_once (place ∷ places) from (type ∷ types) leads last least = (
    false_from_ne_true _ (λ here. let r = rest_leads places type types from leads.1 last here in let short : suc (length places) ≤ length r.0 = least r.0 r.1 in let long : length r.0 ≤ length places = r.2 in omega arith),
    least_once places type types leads.1 last (λ other ends. let more : suc (length places) ≤ suc (length other) = least (place ∷ other) (type, leads.0, ends) in omega arith),
  )

  types_along : (places : List ℕ) (from : List ℕ) → EndsAt generators set end places from → (types : List (List ℕ)) × (Leads generators set from places types) × (last_type from types ≡ end)
  types_along [] from ends = ([], tt, ends)
  types_along (place ∷ places) from ends = let rest = types_along places ends.0 ends.2 in (ends.0 ∷ rest.0, (ends.1, rest.1), rest.2)

  -- a shortest way is a chain
  pub least_chain : (from : List ℕ) (places : List ℕ) → EndsAt generators set end places from → IsAtLeast generators set end (length places) from → IsChain generators set from end places
  least_chain from places ends least =
      let along = types_along places from ends in
      record { types = along.0; leads = along.1; ends = along.2; once = least_once places from along.0 along.1 along.2 least }

  -- the shortest chains are the shortest ways
  pub shortest_from_least : (from : List ℕ) (places : List ℕ) → EndsAt generators set end places from → IsAtLeast generators set end (length places) from → IsShortest generators set from end places
  shortest_from_least from places ends least = record { chain = least_chain from places ends least; least = λ other chain. least other (chain_ends from other chain) }

  -- a shortest chain is as long as a shortest way, where there is one
  pub shortest_length : (from : List ℕ) (places way : List ℕ) → IsShortest generators set from end places → EndsAt generators set end way from → IsAtLeast generators set end (length way) from → length places ≡ length way
  shortest_length from places way shortest ends least =
      let one = shortest.least way (least_chain from way ends least) in
      let other = least places (chain_ends from places shortest.chain) in
      omega arith
