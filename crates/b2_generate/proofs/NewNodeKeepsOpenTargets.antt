-- The open main targets of the code stay what they are when a node comes, and are those of the definition.
use Rattle.std.proofs.Common.{◌≡◌, ◌<◌, ◌≤◌, Bool, true, false, ◌||◌, ℕ, List, [], ◌∷◌, ◌++◌, Option, Some, length, map, refl, sym, ap, subst, ◌∙◌, if◌then◌else◌}
use Rattle.std.specs.List.{AllByRecursion}
use Rattle.std.specs.FinMap as finite
use Rattle.std.proofs.lemmas.List.Folds.{list_any-append}
use Rattle.b2_props.specs.Sets.{Pair}
use Rattle.b2_declared.specs.declared.whole.Declared.{Declared}
use Rattle.b2_references.specs.Names.{Name, is_same, is_among}
use Rattle.b2_alternatives.specs.Picking.{seen}
use Rattle.b2_alternatives.specs.DependencyWork.{StandAt}
use Rattle.b2_generate.specs.Answers.{Generated}
use Rattle.b2_generate.specs.OpenTargets.{under}
use Rattle.b2_generate.specs.Stack.{opened, fresh}
use Rattle.b2_generate.specs.Nodes.{entry_in, first_in, IsFrom, AreLate}
use Rattle.b2_generate.specs.Tables.{name_cmp}
use Rattle.b2_generate.specs.Machine.{names_of, standing_of, frame_of, place_among, HasPlaces, IsKept, AreKept}
use Rattle.b2_generate.specs.Opening.{IsOpened}
use Rattle.b2_generate.specs.declared.node.Node.{Node}
use Rattle.b2_generate.specs.declared.frame.Frame.{Frame}
use Rattle.b2_generate.proofs.OlderNodesStay.{entry_older, entries_older, places_stay, late_stays, late_less, late_both}

-- the names of the open targets
pub names_are : (nodes : List Node) (frames : List Frame) → opened (map (frame_of nodes) frames) ≡ names_of frames
names_are nodes [] = refl
names_are nodes (f ∷ below) = ap (λ (names : List Name). names ++ f.name ∷ []) (names_are nodes below)

-- ---- a node comes

pub standing_later : (n : Node) (older : List Node) (f : Frame) → AllByRecursion (λ place. place < length older) f.done → standing_of (n ∷ older) f ≡ standing_of older f
standing_later n older f there =
    ap (λ (done : List (Name × Generated)). record { set = f.needs.set; usage = f.needs.usage; done = done }) (entries_older n older f.done there)

pub frame_later : (n : Node) (older : List Node) (f : Frame) → AllByRecursion (λ place. place < length older) f.done → frame_of (n ∷ older) f ≡ frame_of older f
frame_later n older f there = ap (λ s. record { name = f.name; asked = f.asked; chosen = seen f.name f.chosen; stands = s }) (standing_later n older f there)

found_later : (n : Node) (older : List Node) (done : List ℕ) (name : Name) → AllByRecursion (λ place. place < length older) done → place_among (n ∷ older) done name ≡ place_among older done name
found_later n older [] name there = refl
found_later n older (place ∷ more) name (here, others) =
    ap (λ (p : Name × Generated). if is_same name p.0 then Some place else place_among (n ∷ older) more name) (entry_older n older place here)
    ∙ ap (λ (o : Option ℕ). if is_same name (entry_in older place).0 then Some place else o) (found_later n older more name others)

pub places_later : (n : Node) (older : List Node) (f : Frame) → HasPlaces older f.done f.places → HasPlaces (n ∷ older) f.done f.places
places_later n older f places =
    record { there = places_stay (length older) f.done places.there; found = λ name. places.found name ∙ sym (found_later n older f.done name places.there) }

pub kept_later : (d : Declared) (n : Node) (older : List Node) (f : Frame) → IsKept older d f → IsKept (n ∷ older) d f
kept_later d n older f kept =
    record {
      stand = subst (λ s. StandAt d f.chosen.target.now (under s) f.needs) (sym (standing_later n older f kept.places.there)) kept.stand;
      places = places_later n older f kept.places;
    }

not_first : (a b : Bool) → (a || b) ≡ false → a ≡ false
not_first true b e = cc
not_first false b e = refl

-- a name that is not among all open targets is not among those below the newest
pub not_below : (f : Frame) (below : List Frame) (name : Name) → is_among (names_of (f ∷ below)) name ≡ false → is_among (names_of below) name ≡ false
not_below f below name e = not_first (is_among (names_of below) name) (is_among (f.name ∷ []) name) (sym (list_any-append (is_same name) (names_of below) (f.name ∷ [])) ∙ e)

module _ (turned : (a b : Name) → is_same a b ≡ is_same b a) where
  pub all_later : (d : Declared) (n : Node) (older : List Node) (frames : List Frame) → AreKept older d frames → is_among (names_of frames) n.name ≡ false → AreKept (n ∷ older) d frames
  all_later d n older [] kept new = record {}
  all_later d n older (f ∷ below) (apart, late, own, others) new =
      (apart, late_stays turned n older f.earliest (names_of (f ∷ below)) late new, kept_later d n older f own, all_later d n older below others (not_below f below n.name new))

pub frames_later : (d : Declared) (n : Node) (older : List Node) (frames : List Frame) → AreKept older d frames → map (frame_of (n ∷ older)) frames ≡ map (frame_of older) frames
frames_later d n older [] kept = refl
frames_later d n older (f ∷ below) (apart, late, own, others) =
    λ i. frame_later n older f own.places.there i ∷ frames_later d n older below others i

-- ---- a target is opened

pub opened_stands : (nodes : List Node) (d : Declared) (name : Name) (asked : List Pair) (earliest : ℕ) (f : Frame) → IsOpened d name asked earliest f → frame_of nodes f ≡ fresh name asked (seen name f.chosen)
opened_stands nodes d name asked earliest f is =
    λ i. record {
      name = is.named i;
      asked = is.asked i;
      chosen = seen (is.named i) f.chosen;
      stands = record { set = is.stand.set i; usage = is.stand.usage i; done = map (entry_in nodes) (is.none i) };
    }

pub opened_kept : (nodes : List Node) (d : Declared) (name : Name) (asked : List Pair) (earliest : ℕ) (f : Frame) → IsOpened d name asked earliest f → IsKept nodes d f
opened_kept nodes d name asked earliest f is =
    record {
      stand = subst (λ u. StandAt d f.chosen.target.now u f.needs)
          (λ i. record { set = sym is.stand.set i; usage = sym is.stand.usage i; done = map (λ e. e.0) (map (entry_in nodes) (sym is.none i)) }) is.stand;
      places = record {
        there = subst (AllByRecursion (λ place. place < length nodes)) (sym is.none) (record {});
        found = λ name. ap (λ t. finite.get t name) is.empty ∙ finite.get-empty name_cmp name ∙ sym (ap (λ done. place_among nodes done name) is.none);
      };
    }

-- the open targets with a further one
pub opened_all : (nodes : List Node) (d : Declared) (name : Name) (asked : List Pair) (earliest : ℕ) (f newest : Frame) (below : List Frame)
    → IsOpened d name asked earliest f → AreKept nodes d (newest ∷ below) → is_among (names_of (newest ∷ below)) name ≡ false
    → earliest ≤ newest.earliest → IsFrom earliest (first_in nodes name) → AreKept nodes d (f ∷ newest ∷ below)
opened_all nodes d name asked earliest f newest below is (apart, late, own, others) new less from = (
  subst (λ (n : Name). is_among (names_of (newest ∷ below)) n ≡ false) (sym is.named) new,
  subst (λ (e : ℕ). AreLate nodes e (names_of (f ∷ newest ∷ below))) (sym is.earliest)
      (late_both nodes earliest (names_of (newest ∷ below)) (f.name ∷ [])
      (late_less nodes newest.earliest earliest (names_of (newest ∷ below)) less late)
      (subst (λ (n : Name). IsFrom earliest (first_in nodes n)) (sym is.named) from, record {})),
  opened_kept nodes d name asked earliest f is,
  (apart, late, own, others),
)
