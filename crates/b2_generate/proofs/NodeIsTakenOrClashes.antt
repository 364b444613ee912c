-- What an open target takes of what was generated.
use Rattle.std.proofs.Common.{◌≡◌, ◌<◌, inl, Bool, true, false, ℕ, List, [], ◌∷◌, ◌++◌, Option, Some, None, Result, Ok, Err, IfOk, IfErr, length, map, reverse, get_or, refl, sym, ap, subst, ◌∙◌, if◌then◌else◌}
use Rattle.std.specs.List.{AllByRecursion}
use Rattle.std.specs.Option.{option_or}
use Rattle.std.specs.FinMap as finite
use Rattle.std.proofs.lemmas.List.{map-append, length-reverse}
use Rattle.b2_props.specs.Sets.{Pair}
use Rattle.b2_props.specs.Refinement.{refined}
use Rattle.b2_declared.specs.declared.whole.Declared.{Declared}
use Rattle.b2_references.specs.Names.{Name, is_same, features}
use Rattle.b2_alternatives.specs.Needs as needs
use Rattle.b2_alternatives.specs.Picking.{seen}
use Rattle.b2_alternatives.specs.DependencyWork.{StandAt, Adds}
use Rattle.b2_alternatives.specs.declared.conflict.Conflict.{Conflict}
use Rattle.b2_alternatives.specs.declared.dependencies.Dependencies.{Dependencies}
use Rattle.b2_generate.specs.Answers.{Generated}
use Rattle.b2_generate.specs.Nodes.{entry_in, node_in}
use Rattle.b2_generate.specs.Machine.{place_among, HasPlaces, IsKept, standing_of}
use Rattle.b2_generate.specs.Opening.{IsConflict}
use Rattle.b2_generate.specs.OpenTargets.{under, conflict}
use Rattle.b2_generate.specs.Tables.{Table}
use Rattle.b2_generate.specs.Taking.{IsTaken, Notes}
use Rattle.b2_generate.specs.declared.fault.GenFault.{GenFault}
use Rattle.b2_generate.specs.declared.fault.GenFault.TheVariants.{OutOfMemory}
use Rattle.b2_generate.specs.declared.frame.Frame.{Frame}
use Rattle.b2_generate.specs.declared.node.Node.{Node}
use Rattle.b2_generate.proofs.OlderNodesStay.{IsEntry, entry_is, node_there}

-- ---- places with one more

among_last : (nodes : List Node) (done : List ℕ) (place : ℕ) (name : Name)
    → place_among nodes (done ++ place ∷ []) name ≡ option_or (place_among nodes done name) (if is_same name (entry_in nodes place).0 then Some place else None)
among_last nodes [] place name = refl
among_last nodes (first ∷ more) place name = cases (is_same name (entry_in nodes first).0) (among_last nodes more place name)
  where
    cases : (b : Bool) → place_among nodes (more ++ place ∷ []) name ≡ option_or (place_among nodes more name) (if is_same name (entry_in nodes place).0 then Some place else None)
        → (if b then Some first else place_among nodes (more ++ place ∷ []) name)
        ≡ option_or (if b then Some first else place_among nodes more name) (if is_same name (entry_in nodes place).0 then Some place else None)
    cases true rest = refl
    cases false rest = rest

all_last : (count : ℕ) (done : List ℕ) (place : ℕ) → AllByRecursion (λ p. p < count) done → place < count → AllByRecursion (λ p. p < count) (done ++ place ∷ [])
all_last count [] place all less = (less, record {})
all_last count (first ∷ more) place (here, others) less = (here, all_last count more place others less)

pub places_more : (nodes : List Node) (done : List ℕ) (old new : Table ℕ) (place : ℕ) → HasPlaces nodes done old → place < length nodes
    → ((name : Name) → finite.get new name ≡ option_or (finite.get old name) (if is_same name (entry_in nodes place).0 then Some place else None))
    → HasPlaces nodes (done ++ place ∷ []) new
places_more nodes done old new place has less added =
    record {
      there = all_last (length nodes) done place has.there less;
      found = λ name. added name ∙ ap (λ (o : Option ℕ). option_or o (if is_same name (entry_in nodes place).0 then Some place else None)) (has.found name) ∙ sym (among_last nodes done place name);
    }

-- ---- an open target takes a node

conflict_is : (E : Type 0) (d : Declared) (name : Name) (found : Option Conflict) → IsConflict {E = E} d name found OutOfMemory
conflict_is E d name None = refl
conflict_is E d name (Some found) = inl refl

-- out of memory stands in place of any conflict
pub conflict_out : {T E : Type 0} (d : Declared) (name : Name) (found : Option Conflict) (r : Result T (GenFault E)) → r ≡ Err OutOfMemory → IfErr r (IsConflict d name found)
conflict_out {T} {E} d name found r e = subst (λ (k : Result T (GenFault E)). IfErr k (IsConflict d name found)) (sym e) (conflict_is E d name found)

-- the conflict that was found is the one of what the node at a place gives
pub conflict_found : {E : Type 0} (d : Declared) (nodes : List Node) (place : ℕ) (f : Frame) (n : Node) (after : Dependencies) (found : Conflict) (fault : GenFault E) → node_in nodes place ≡ Some n
    → Adds d f.chosen.target.now (under (standing_of nodes f)) n.name n.usage after (Some found) → IsConflict d f.name (Some found) fault
    → IsConflict d f.name (conflict d (standing_of nodes f) (entry_in nodes place).1) fault
conflict_found d nodes place f n after found fault at adds is =
    subst (λ (o : Option Conflict). IsConflict d f.name o fault) (adds.exact ∙ ap (needs.conflict d (under (standing_of nodes f))) (sym (entry_is nodes place n at).usage)) is

module _ (d : Declared) (nodes : List Node) (place : ℕ) (f : Frame) (n : Node) (after : Dependencies) (places : Table ℕ) (kept : IsKept nodes d f) (there : place < length nodes) (at : node_in nodes place ≡ Some n)
    (adds : Adds d f.chosen.target.now (under (standing_of nodes f)) n.name n.usage after None)
    (noted : (other : Name) → finite.get places other ≡ option_or (finite.get f.places other) (if is_same other n.name then Some place else None)) where
  -- the open target after it
  abbrev pub with_node : Frame
  with_node = record f { needs = after; done = f.done ++ place ∷ []; places = places }

  entry : IsEntry nodes place n
  entry = entry_is nodes place n at

  names_more : map (λ e. e.0) (map (entry_in nodes) f.done) ++ n.name ∷ [] ≡ map (λ e. e.0) (map (entry_in nodes) (f.done ++ place ∷ []))
  names_more =
      ap (λ (name : Name). map (λ e. e.0) (map (entry_in nodes) f.done) ++ name ∷ []) (sym entry.name)
      ∙ sym (ap (map (λ e. e.0)) (map-append (entry_in nodes) f.done (place ∷ [])) ∙ map-append (λ (e : Name × Generated). e.0) (map (entry_in nodes) f.done) (entry_in nodes place ∷ []))

  stands_more : StandAt d f.chosen.target.now (under (standing_of nodes with_node)) after
  stands_more =
      subst (λ (u : needs.Under). StandAt d f.chosen.target.now u after) (λ i. record { set = sym adds.stand.set i; usage = sym adds.stand.usage i; done = names_more i }) adds.stand

  pub taken : IsTaken d nodes place f with_node
  taken = record {
    kept = record {
      stand = stands_more;
      places = places_more nodes f.done f.places places place kept.places there
          (λ name. noted name ∙ ap (λ (m : Name). option_or (finite.get f.places name) (if is_same name m then Some place else None)) (sym entry.name));
    };
    stands = λ i. record {
      name = f.name;
      asked = f.asked;
      chosen = seen f.name f.chosen;
      stands = record {
        set = (adds.stand.set ∙ ap (refined (features d) f.needs.set) (sym entry.usage)) i;
        usage = (adds.stand.usage ∙ ap (λ (more : List Pair). f.needs.usage ++ more) (sym entry.usage)) i;
        done = map-append (entry_in nodes) f.done (place ∷ []) i;
      };
    };
    earliest = refl;
    fits = ap (needs.conflict d (under (standing_of nodes f))) entry.usage ∙ sym adds.exact;
  }

-- ---- the same, by the nodes of the code, which are in order

pub takes_node : (d : Declared) (listed : List Node) (place : ℕ) (f g : Frame) (n : Node) (after : Dependencies) → IsKept (reverse listed) d f → place < length listed → n ≡ get_or listed place n
    → Adds d f.chosen.target.now (under (standing_of (reverse listed) f)) n.name n.usage after None → Notes n.name place (record f { needs = after }) g → IsTaken d (reverse listed) place f g
takes_node d listed place f g n after kept less is adds notes =
    subst (IsTaken d (reverse listed) place f) (sym notes.same)
    (taken d (reverse listed) place f n after g.places kept (subst (λ (k : ℕ). place < k) (sym (length-reverse listed)) less) (node_there listed place n less is) adds notes.places)

pub clashes_node : {E : Type 0} (d : Declared) (listed : List Node) (place : ℕ) (f : Frame) (n : Node) (after : Dependencies) (found : Conflict) (fault : GenFault E) → place < length listed → n ≡ get_or listed place n
    → Adds d f.chosen.target.now (under (standing_of (reverse listed) f)) n.name n.usage after (Some found) → IsConflict d f.name (Some found) fault
    → IsConflict d f.name (conflict d (standing_of (reverse listed) f) (entry_in (reverse listed) place).1) fault
clashes_node d listed place f n after found fault less is adds conflict_is = conflict_found d (reverse listed) place f n after found fault (node_there listed place n less is) adds conflict_is

-- what adding says, where the answer is known
pub added : {E : Type 0} (d : Declared) (f : Frame) (nodes : List Node) (name : Name) (usage : List Pair) (after : Dependencies) (r : Result (Option Conflict) E) (answer found : Option Conflict)
    → IfOk r (Adds d f.chosen.target.now (under (standing_of nodes f)) name usage after) → r ≡ Ok answer → answer ≡ found → Adds d f.chosen.target.now (under (standing_of nodes f)) name usage after found
added {E} d f nodes name usage after r answer found h ok is =
    subst (Adds d f.chosen.target.now (under (standing_of nodes f)) name usage after) is
    (subst (λ (k : Result (Option Conflict) E). IfOk k (Adds d f.chosen.target.now (under (standing_of nodes f)) name usage after)) ok h)
