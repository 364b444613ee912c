-- Where each number is a place, the requirements of an alternative ask no rules but those that there are.
use Rattle.std.proofs.Common.{◌≡◌, ℕ, zero, suc, List, [], ◌∷◌, ◌++◌, Option, Some, None, length, refl, subst}
use Rattle.std.specs.Prelude.{All, slice_get}
use Rattle.std.specs.List.{flat_map, filter, AllByRecursion}
use Rattle.std.specs.Option.{option_map_or}
use Rattle.std.proofs.lemmas.Option.{slice_get_within, get_or_from_slice_get}
use Rattle.std.proofs.lemmas.List.Elements.{All-append, All-filter, All-from_recursion, recursion_from_All}
use Rattle.b2_declared.specs.declared.place.Place.{Place}
use Rattle.b2_declared.specs.declared.place.Target.{Target}
use Rattle.b2_declared.specs.declared.whole.Declared.{Declared}
use Rattle.b2_declared.specs.Laws.{AreNumbered}
use Rattle.b2_declared.specs.Numbered.{IsNumbered}
use Rattle.b2_references.specs.Names.{Name, is_same, name_of, lineage_in, lineage, alternatives}
use Rattle.b2_props.specs.Requirements.{AsksBelow}
use Rattle.b2_alternatives.specs.Choosing.{requirements}

-- what holds of all holds of one
at_place : {X : Type 0} (P : X → Type 0) (xs : List X) (k : ℕ) (x : X) → All P xs → slice_get xs k ≡ Some x → P x
at_place P xs k x all e = subst P (get_or_from_slice_get xs k x x e) (all k x (slice_get_within xs k x e))

-- ---- projects

place_list : (P : Place → Type 0) (p : Place) → P p → All P (p ∷ [])
place_list P p is = All-from_recursion P (p ∷ []) (is, tt)

in_lineage : (P : Place → Type 0) (turns : ℕ) (places : List Place) (project : ℕ) → All P places → All P (lineage_in turns places project)
in_lineage P zero places project all = All-from_recursion P [] tt
in_lineage P (suc turns) places project all = go (slice_get places project) refl (λ q. in_lineage P turns places q all)
  where
    above : (parent : Option ℕ) → ((q : ℕ) → All P (lineage_in turns places q)) → All P (option_map_or (lineage_in turns places) parent [])
    above None more = All-from_recursion P [] tt
    above (Some q) more = more q

    go : (o : Option Place) → slice_get places project ≡ o → ((q : ℕ) → All P (lineage_in turns places q)) → All P (option_map_or (λ p. option_map_or (lineage_in turns places) p.parent [] ++ p ∷ []) o [])
    go None e more = All-from_recursion P [] tt
    go (Some p) e more = All-append P (option_map_or (lineage_in turns places) p.parent []) (p ∷ []) (above p.parent more) (place_list P p (at_place P places project p all e))

from_places : (rules : ℕ) (places : List Place) → All (λ p. AreNumbered rules p.requirements p.usage) places → All (AsksBelow rules) (flat_map (λ p. p.requirements) places)
from_places rules places all = go places (recursion_from_All (λ (p : Place). AreNumbered rules p.requirements p.usage) places all)
  where
    go : (ps : List Place) → AllByRecursion (λ p. AreNumbered rules p.requirements p.usage) ps → All (AsksBelow rules) (flat_map (λ p. p.requirements) ps)
    go [] all = All-from_recursion (AsksBelow rules) [] tt
    go (p ∷ ps) all = All-append (AsksBelow rules) p.requirements (flat_map (λ (q : Place). q.requirements) ps) all.0.below (go ps all.1)

-- the requirements of an alternative ask none but the rules that there are
pub requirements_ask : (d : Declared) (name : Name) (place : ℕ) (t : Target) → IsNumbered d → slice_get (alternatives d name) place ≡ Some t → All (AsksBelow (length d.indirect)) (requirements d t)
unfolding alternatives lineage
requirements_ask d name place t is at =
    All-append (AsksBelow (length d.indirect)) (flat_map (λ (p : Place). p.requirements) (lineage d t.project)) t.requirements
    (from_places (length d.indirect) (lineage d t.project) (in_lineage (λ p. AreNumbered (length d.indirect) p.requirements p.usage) (length d.places) d.places t.project is.in_places))
    own.below
  where
    own : AreNumbered (length d.indirect) t.requirements t.usage
    own = at_place (λ (t : Target). AreNumbered (length d.indirect) t.requirements t.usage) (filter (λ t. is_same name (name_of t)) d.targets) place t
        (All-filter (λ (t : Target). is_same name (name_of t)) (λ (t : Target). AreNumbered (length d.indirect) t.requirements t.usage) d.targets is.in_targets) at
