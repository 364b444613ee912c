-- What the walks down the layers found is one shortest chain alone or the first two; for the answer and its faults.
use Rattle.std.proofs.Common.{◌≡◌, ℕ, ◌+◌, ◌<◌, List, [], ◌∷◌, ◌++◌, length, take, get_or, Option, Some, None, MatchOption, slice_get, refl, sym, ◌∙◌, ap, subst}
use Rattle.std.specs.Prelude.{Result, Ok, Err, IfErr, IfNone, IfSome}
use Rattle.std.specs.List.{filter_map}
use Rattle.std.specs.Option.{option_map}
use Rattle.std.proofs.lemmas.List.{append-nil, take_more}
use Rattle.std.proofs.lemmas.List.Elements.{filter_map-append}
use Rattle.b2_generators.specs.declared.generator.Generator.{Generator}
use Rattle.b2_generators.specs.declared.walk.Branch.{Branch}
use Rattle.b2_generators.specs.declared.fault.ChainFault.{ChainFault}
use Rattle.b2_generators.specs.declared.fault.ChainFault.TheVariants.{NoChain, TwoChains, OutOfMemory}
use Rattle.b2_generators.specs.Faults.{IsBetween, IsNoChainBy, IsTwoChainsBy, TellsBoth}
use Rattle.b2_props.specs.Sets.{Pair}
use Rattle.b2_generators.specs.Chains.{ids_of, IsOnlyShortest, AreFirstTwo}
use Rattle.b2_generators.specs.Layers.{AreLayers, IsApart}
use Rattle.b2_generators.specs.Places.{targets_at}
use Rattle.b2_generators.specs.Descents.{Descends, IsFirst, IsOnly, AreFirst, IsBranch, IsWalk, IsOnlyDown, AreFirstDown, AreFound, IsSecond}
use Rattle.b2_generators.proofs.WaysDownAreShortestChains.{only_shortest, first_two}

-- ---- ids

pub id_none : (generators : List Generator) (place : ℕ) (ids : List (List ℕ)) → None ≡ slice_get generators place → ids ≡ ids ++ ids_of generators (place ∷ [])
id_none generators place ids none = go (slice_get generators place) (sym none)
  where
    go : (o : Option Generator) → o ≡ None → ids ≡ ids ++ filter_map (λ (p : ℕ). option_map (λ (g : Generator). g.id) o) (place ∷ [])
    go None e = sym (append-nil ids)
    go (Some g) e = cc

pub id_some : (generators : List Generator) (place : ℕ) (before after : List (List ℕ)) (id : List ℕ) (g : Generator) → Some g ≡ slice_get generators place → id ≡ g.id → after ≡ before ++ id ∷ [] → after ≡ before ++ ids_of generators (place ∷ [])
id_some generators place before after id g there is pushed = pushed ∙ go (slice_get generators place) (sym there)
  where
    go : (o : Option Generator) → o ≡ Some g → before ++ id ∷ [] ≡ before ++ filter_map (λ (p : ℕ). option_map (λ (h : Generator). h.id) o) (place ∷ [])
    go None e = cc
    go (Some h) e = let same : h ≡ g = cc in ap (λ x. before ++ x ∷ []) (is ∙ sym (ap (λ (k : Generator). k.id) same))

pub ids_more : (generators : List Generator) (places : List ℕ) (i : ℕ) (before after : List (List ℕ)) → i < length places → before ≡ ids_of generators (take i places) → after ≡ before ++ ids_of generators (get_or places i 0 ∷ []) → after ≡ ids_of generators (take (i + 1) places)
ids_more generators places i before after within was more =
    more ∙ ap (λ xs. xs ++ ids_of generators (get_or places i 0 ∷ [])) was
    ∙ sym (ap (ids_of generators) (take_more places i 0 within) ∙ filter_map-append (λ (p : ℕ). option_map (λ (g : Generator). g.id) (slice_get generators p)) (take i places) (get_or places i 0 ∷ []))

-- ---- the second list

-- its places
pub second_named : (generators : List Generator) (layers : List (List ℕ)) (one : List ℕ) (branch : Branch) (types : List (List ℕ)) (rest start middle end : List ℕ) (found : Option Branch) (ids : List (List ℕ)) → types ≡ targets_at generators branch.place → IsWalk generators layers branch.after types rest found
    → start ≡ take branch.before one → middle ≡ start ++ branch.place ∷ [] → end ≡ middle ++ rest → ids ≡ ids_of generators end → IsSecond generators layers one branch ids
second_named generators layers one branch types rest start middle end found ids given walk before mid last named = record {
  rest = rest;
  first = subst (λ (ts : List (List ℕ)). IsFirst (Descends generators layers ts) branch.after rest) given walk.first;
  named = named ∙ ap (ids_of generators) (last ∙ ap (λ xs. xs ++ rest) (mid ∙ ap (λ xs. xs ++ branch.place ∷ []) before) ∙ joined (take branch.before one));
}
  where
    joined : (xs : List ℕ) → (xs ++ branch.place ∷ []) ++ rest ≡ xs ++ branch.place ∷ rest
    joined [] = refl
    joined (x ∷ xs) = ap (λ ys. x ∷ ys) (joined xs)

-- what the walk knows of its branch
pub branch_of : (generators : List Generator) (layers : List (List ℕ)) (count : ℕ) (types : List (List ℕ)) (one : List ℕ) (found : Option Branch) (branch : Branch) → IsWalk generators layers count types one found → found ≡ Some branch → IsBranch generators layers count types one branch
branch_of generators layers count types one found branch walk e = subst (λ (o : Option Branch). MatchOption o (IsOnly (Descends generators layers types) count one) (IsBranch generators layers count types one)) e walk.rest

-- ---- what was found

pub found_one : (generators : List Generator) (layers : List (List ℕ)) (from : List ℕ) (count : ℕ) (types : List (List ℕ)) (one : List ℕ) (found : Option Branch) (ids : List (List ℕ)) → IsWalk generators layers count types one found → found ≡ None → count ≡ length layers → types ≡ from ∷ [] → ids ≡ ids_of generators one → IsOnlyDown generators layers from ids
found_one generators layers from count types one found ids walk e size start named = record {
  places = one;
  only = subst (λ n. IsOnly (Descends generators layers (from ∷ [])) n one) size (subst (λ (ts : List (List ℕ)). IsOnly (Descends generators layers ts) count one) start only);
  named = named;
}
  where
    only : IsOnly (Descends generators layers types) count one
    only = subst (λ (o : Option Branch). MatchOption o (IsOnly (Descends generators layers types) count one) (IsBranch generators layers count types one)) e walk.rest

pub found_two : (generators : List Generator) (layers : List (List ℕ)) (from : List ℕ) (count : ℕ) (types : List (List ℕ)) (one : List ℕ) (branch : Branch) (ids others : List (List ℕ)) → IsBranch generators layers count types one branch → count ≡ length layers → types ≡ from ∷ [] → ids ≡ ids_of generators one → IsSecond generators layers one branch others → AreFirstDown generators layers from ids others
found_two generators layers from count types one branch ids others is size start named second = record {
  one = one;
  two = take branch.before one ++ branch.place ∷ second.rest;
  lead = subst (λ n. AreFirst (Descends generators layers (from ∷ [])) n one (take branch.before one ++ branch.place ∷ second.rest)) size
      (subst (λ (ts : List (List ℕ)). AreFirst (Descends generators layers ts) count one (take branch.before one ++ branch.place ∷ second.rest)) start (is.second second.rest second.first));
  first_named = named;
  second_named = second.named;
}

-- ---- the answer

module _ (generators : List Generator) (set : List Pair) (end from : List ℕ) where
  pub layers_of : {X : Type 0} (items : X → List (List ℕ)) (found : Option X) (layers : X) (list : List (List ℕ)) → IfSome found (λ l. AreLayers generators set end from (items l)) → found ≡ Some layers → list ≡ items layers → AreLayers generators set end from list
  layers_of items None layers list is e same = cc
  layers_of items (Some l) layers list is e same = let f : l ≡ layers = cc in subst (λ (ls : List (List ℕ)). AreLayers generators set end from ls) (ap items f ∙ sym same) is

  pub apart_of : {X : Type 0} (found : Option X) → IfNone found (IsApart generators set end from) → found ≡ None → IsApart generators set end from
  apart_of None is e = is
  apart_of (Some l) is e = cc

  module _ (layers : List (List ℕ)) (are : AreLayers generators set end from layers) (first : List (List ℕ)) where
    pub only_of : (second : Option (List (List ℕ))) → AreFound generators layers from first second → second ≡ None → IsOnlyShortest generators set from end first
    only_of None found e = only_shortest generators set end from layers are found.places first found.only found.named
    only_of (Some s) found e = cc

    pub two_of : (second : Option (List (List ℕ))) (other : List (List ℕ)) → AreFound generators layers from first second → second ≡ Some other → AreFirstTwo generators set from end first other
    two_of None other found e = cc
    two_of (Some s) other found e = let f : s ≡ other = cc in subst (λ (o : List (List ℕ)). AreFirstTwo generators set from end first o) f (first_two generators set end from layers are found.one found.two first s found.lead found.first_named found.second_named)

    pub tells_two : (second : Option (List (List ℕ))) (fault : ChainFault) → AreFound generators layers from first second → TellsBoth from end first second fault → IsTwoChainsBy generators set from end fault
    tells_two second (NoChain a b) found tells = tt
    tells_two second (TwoChains a b one other) found tells = subst (λ (o : List (List ℕ)). AreFirstTwo generators set from end o other) (sym tells.2) (two_of second other found tells.3)
    tells_two second OutOfMemory found tells = tt

    pub tells_some : (second : Option (List (List ℕ))) (fault : ChainFault) → TellsBoth from end first second fault → IsNoChainBy generators set from end fault
    tells_some second (NoChain a b) tells = absurd tells
    tells_some second (TwoChains a b one other) tells = tt
    tells_some second OutOfMemory tells = tt

pub tells_between : (from end : List ℕ) (first : List (List ℕ)) (second : Option (List (List ℕ))) (fault : ChainFault) → TellsBoth from end first second fault → IsBetween from end fault
tells_between from end first second (NoChain a b) tells = absurd tells
tells_between from end first second (TwoChains a b one other) tells = (tells.0, tells.1)
tells_between from end first second OutOfMemory tells = tt

pub IfErr-weaker : {X Y : Type 0} (r : Result X Y) (P Q : Y → Type 0) → ((y : Y) → P y → Q y) → IfErr r P → IfErr r Q
IfErr-weaker (Ok x) P Q goes is = tt
IfErr-weaker (Err y) P Q goes is = goes y is
