-- Of no chain, one shortest and two shortest at most one is so; from a type to itself only the empty chain leads.
use Rattle.std.proofs.Common.{◌≡◌, ℕ, true, List, [], ◌∷◌, refl, sym, ◌∙◌, subst}
use Rattle.std.proofs.lemmas.Bool.{both_ways, or_left, or_right}
use Rattle.b2_props.proofs.RepeatedPairsAddNothing.{text_itself}
use Rattle.b2_generators.specs.Table.{has_text}
use Rattle.b2_generators.specs.Chains.{Leads, last_type, HasNoRepeat}
use Rattle.b2_base.specs.Bytes.{Before}
use Rattle.b2_generators.specs.Laws.{SameTypeIsEmpty, EmptyIsChain, NoneIsNotOne, NoneIsNotTwo, OneIsNotTwo}
use Rattle.b2_generators.proofs.LowestPlaceBeginsFirstList.{not_before_itself}

-- the last type stands among the types
last_stands : (type : List ℕ) (types : List (List ℕ)) → has_text (type ∷ types) (last_type type types) ≡ true
last_stands type [] = or_left _ _ (text_itself type)
last_stands type (next ∷ types) = or_right _ _ (last_stands next types)

pub same_type_is_empty : SameTypeIsEmpty
same_type_is_empty generators set type [] chain = refl
same_type_is_empty generators set type (place ∷ places) chain = go chain.types chain.leads chain.ends chain.once
  where
    go : (types : List (List ℕ)) → Leads generators set type (place ∷ places) types → last_type type types ≡ type → HasNoRepeat (type ∷ types) → (place ∷ places) ≡ []
    go [] leads ends once = absurd leads
    go (next ∷ types) leads ends once = absurd (both_ways _ once.0 (subst (λ (t : List ℕ). has_text (next ∷ types) t ≡ true) ends (last_stands next types)))

pub empty_is_chain : EmptyIsChain
empty_is_chain generators set type = record { types = []; leads = tt; ends = refl; once = (refl, tt) }

pub none_is_not_one : NoneIsNotOne
none_is_not_one generators set from to ids none only = none only.places only.shortest.chain

pub none_is_not_two : NoneIsNotTwo
none_is_not_two generators set from to first second none two = none two.one two.one_shortest.chain

pub one_is_not_two : OneIsNotTwo
one_is_not_two generators set from to ids first second only two =
    let same : two.one ≡ two.two = only.only two.one two.one_shortest ∙ sym (only.only two.two two.two_shortest) in
    not_before_itself two.two (subst (λ (places : List ℕ). Before places two.two) same two.order)
