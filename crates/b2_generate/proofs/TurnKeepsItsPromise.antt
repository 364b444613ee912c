-- What a turn promises, at each of its exits.
use Rattle.std.proofs.Common.{arith, ◌≡◌, ◌<◌, ◌==◌, ℕ, suc, Bool, true, false, List, [], ◌∷◌, ◌++◌, Option, Some, None, Result, Ok, Err, length, map, reverse, refl, sym, ap, subst, ◌∙◌, if◌then◌else◌}
use Rattle.std.proofs.lemmas.List.{reverse-append}
use Rattle.std.proofs.lemmas.Bool.{eqb-true}
use Rattle.b2_plan.specs.declared.step.Step.{Step}
use Rattle.b2_props.specs.Sets.{Pair}
use Rattle.b2_declared.specs.declared.whole.Declared.{Declared}
use Rattle.b2_evaluator.specs.Answers.{Answers}
use Rattle.b2_references.specs.Names.{Name, name_of}
use Rattle.b2_alternatives.specs.Picking.{seen}
use Rattle.b2_alternatives.specs.Needs as needs
use Rattle.b2_alternatives.specs.DependencyWork.{StandAt}
use Rattle.b2_alternatives.specs.declared.need.Next.{Next}
use Rattle.b2_alternatives.specs.declared.dependencies.Dependencies.{Dependencies}
use Rattle.b2_making.specs.Answers.{Grows}
use Rattle.b2_generate.specs.Generation.{Generates}
use Rattle.b2_generate.specs.Machine.{frame_of, standing_of, IsKept, AreKept}
use Rattle.b2_generate.specs.Measure.{turns_left}
use Rattle.b2_generate.specs.Nodes.{entry_in, node_in, AreAdded}
use Rattle.b2_generate.specs.Remembered.{AreMade}
use Rattle.b2_generate.specs.Stack.{IsUnderWay}
use Rattle.b2_generate.specs.OpenTargets.{next, under}
use Rattle.b2_generate.specs.Tables.{Table}
use Rattle.b2_generate.specs.ToldOutcomes.{loaded_of, IsRefusal, Leaves}
use Rattle.b2_generate.specs.Turning.{IsTurn, IsTurned, GoOn, IsOver, turns_of}
use Rattle.b2_generate.specs.declared.fault.GenFault.{GenFault}
use Rattle.b2_generate.specs.declared.fault.GenFault.TheVariants.{OutOfMemory}
use Rattle.b2_generate.specs.declared.frame.Frame.{Frame}
use Rattle.b2_generate.specs.declared.node.Node.{Node}

-- ---- exits

module _ {S E K : Type 0} {answers : S → Option (Answers E)} {kept : S → K} {faults : S → ℕ} {is_host is_out : E → Bool} {CanFault : K → E → Type 0}
    {d : Declared} {roots : List (List ℕ)} {old_nodes : List Node} {old_frames : List Frame} {before : List Step} {old : S}
    {nodes : List Node} {firsts : Table ℕ} {open_frames : List Frame} {after : List Step} {new : S} where
  pub stopped : {T : Type 0} (r : Result (Option ℕ) (GenFault E)) (fault : GenFault E) → r ≡ Err fault → Grows roots before after → ((answered : Answers E) → answers old ≡ Some answered → (name : Name) (set : List Pair) (start : List Step)
      → IsUnderWay (loaded_of d roots answered) name set start (map (frame_of old_nodes) old_frames) before → AreMade (loaded_of d roots answered) old_nodes before
      → IsRefusal is_host is_out (λ why. Generates (loaded_of d roots answered) [] name set start (Err why)) fault)
      → Leaves {T = T} answers kept faults is_host is_out CanFault old new (Err fault) → IsTurn answers kept faults is_host is_out CanFault d roots old_nodes old_frames before old nodes firsts open_frames after new r
  stopped {T} r fault e grows refuses left =
      subst (λ (k : Result (Option ℕ) (GenFault E)). IsTurn answers kept faults is_host is_out CanFault d roots old_nodes old_frames before old nodes firsts open_frames after new k) (sym e)
      (record {
        turned = record {};
        adds = record {};
        leads = λ answered is name set start way made. refuses answered is name set start way made;
        grows = grows;
        leaves = record { same_answers = left.same_answers; same_kept = left.same_kept; counted = left.counted; known = left.known };
      })

  pub ran_out : (r : Result (Option ℕ) (GenFault E)) → r ≡ Err OutOfMemory → Grows roots before after → answers new ≡ answers old → kept new ≡ kept old → IsTurn answers kept faults is_host is_out CanFault d roots old_nodes old_frames before old nodes firsts open_frames after new r
  ran_out r e grows told held =
      stopped {T = Option ℕ} r OutOfMemory e grows (λ answered is name set start way made. record {}) (record { same_answers = told; same_kept = held; counted = record {}; known = record {} })

  -- some main targets are open after it
  pub goes : GoOn d (turns_of d old_nodes old_frames) nodes firsts open_frames
      → ((answered : Answers E) → answers old ≡ Some answered → (name : Name) (set : List Pair) (start : List Step)
      → IsUnderWay (loaded_of d roots answered) name set start (map (frame_of old_nodes) old_frames) before → AreMade (loaded_of d roots answered) old_nodes before
      → IsUnderWay (loaded_of d roots answered) name set start (map (frame_of nodes) open_frames) after × AreMade (loaded_of d roots answered) nodes after)
      → Grows roots before after → AreAdded old_nodes nodes → answers new ≡ answers old → kept new ≡ kept old → faults new ≡ faults old → IsTurn answers kept faults is_host is_out CanFault d roots old_nodes old_frames before old nodes firsts open_frames after new (Ok None)
  goes on leads grows added told held counted = record {
    turned = on;
    adds = added;
    leads = λ answered is name set start way made. leads answered is name set start way made;
    grows = grows;
    leaves = record { same_answers = told; same_kept = held; counted = counted; known = record {} };
  }

  -- the oldest is generated
  pub is_over : (place : ℕ) → IsOver d nodes firsts place
      → ((answered : Answers E) → answers old ≡ Some answered → (name : Name) (set : List Pair) (start : List Step)
      → IsUnderWay (loaded_of d roots answered) name set start (map (frame_of old_nodes) old_frames) before → AreMade (loaded_of d roots answered) old_nodes before
      → Generates (loaded_of d roots answered) [] name set start (Ok ((entry_in nodes place).1, after)) × AreMade (loaded_of d roots answered) nodes after)
      → Grows roots before after → AreAdded old_nodes nodes → answers new ≡ answers old → kept new ≡ kept old → faults new ≡ faults old → IsTurn answers kept faults is_host is_out CanFault d roots old_nodes old_frames before old nodes firsts open_frames after new (Ok (Some place))
  is_over place over leads grows added told held counted = record {
    turned = over;
    adds = added;
    leads = λ answered is name set start way made. leads answered is name set start way made;
    grows = grows;
    leaves = record { same_answers = told; same_kept = held; counted = counted; known = record {} };
  }

-- it is a turn from other open main targets that stand where these do
pub turn_from : {S E K : Type 0} {answers : S → Option (Answers E)} {kept : S → K} {faults : S → ℕ} {is_host is_out : E → Bool} {CanFault : K → E → Type 0}
    {d : Declared} {roots : List (List ℕ)} {old_nodes : List Node} (a b : List Frame) {before : List Step} {old : S}
    {nodes : List Node} {firsts : Table ℕ} {open_frames : List Frame} {after : List Step} {new : S} {r : Result (Option ℕ) (GenFault E)}
    → map (frame_of old_nodes) a ≡ map (frame_of old_nodes) b → IsTurn answers kept faults is_host is_out CanFault d roots old_nodes a before old nodes firsts open_frames after new r
    → IsTurn answers kept faults is_host is_out CanFault d roots old_nodes b before old nodes firsts open_frames after new r
turn_from {S} {E} {K} {answers} {kept} {faults} {is_host} {is_out} {CanFault} {d} {roots} {old_nodes} a b {before} {old} {nodes} {firsts} {open_frames} {after} {new} {r} same t = record {
  turned = subst (λ (count : ℕ). IsTurned d count nodes firsts open_frames r) (ap (turns_left (map name_of d.targets)) same) t.turned;
  leads = λ answered is name set start way made.
      t.leads answered is name set start (subst (λ fs. IsUnderWay (loaded_of d roots answered) name set start fs before) (sym same) way) made;
  adds = t.adds;
  grows = t.grows;
  leaves = t.leaves;
}

-- ---- the open main targets

-- with a further one
pub frames_more : (newest f g : Frame) (items below : List Frame) → newest ≡ g → items ≡ below ++ f ∷ [] → newest ∷ reverse items ≡ g ∷ f ∷ reverse below
frames_more newest f g items below e h = λ i. e i ∷ (ap (λ (xs : List Frame). reverse xs) h ∙ reverse-append below (f ∷ [])) i

-- with other dependencies that stand at the same place
pub needs_stay : (d : Declared) (nodes : List Node) (f g : Frame) (deps : Dependencies) → g ≡ record f { needs = deps } → IsKept nodes d f → StandAt d f.chosen.target.now (under (standing_of nodes f)) deps → frame_of nodes g ≡ frame_of nodes f
needs_stay d nodes f g deps is kept stand =
    ap (frame_of nodes) is ∙ (λ i. record { name = f.name; asked = f.asked; chosen = seen f.name f.chosen; stands = record { set = stand.set i; usage = stand.usage i; done = map (entry_in nodes) f.done } })

pub needs_kept : (d : Declared) (nodes : List Node) (f : Frame) (below : List Frame) (deps : Dependencies) → AreKept nodes d (f ∷ below) → StandAt d f.chosen.target.now (under (standing_of nodes f)) deps
    → AreKept nodes d (record f { needs = deps } ∷ below)
needs_kept d nodes f below deps kept stand = (
  kept.0,
  kept.1,
  record {
    stand = subst (λ u. StandAt d f.chosen.target.now u deps) (λ i. record { set = sym stand.set i; usage = sym stand.usage i; done = map (λ e. e.0) (map (entry_in nodes) f.done) }) stand;
    places = record { there = kept.2.places.there; found = kept.2.places.found };
  },
  kept.3,
)

-- what comes next is the same there
pub next_there : (d : Declared) (nodes : List Node) (f : Frame) (after : Dependencies) (found is : Next) → StandAt d f.chosen.target.now (under (standing_of nodes f)) after → found ≡ is
    → found ≡ needs.next d f.chosen.target.now (under (standing_of nodes f)) → next d (seen f.name f.chosen) (standing_of nodes (record f { needs = after })) ≡ is
next_there d nodes f after found is stand e found_is =
    ap (next d (seen f.name f.chosen)) (λ i. record { set = stand.set i; usage = stand.usage i; done = map (entry_in nodes) f.done }) ∙ sym found_is ∙ e

-- ---- nodes

-- a node that was asked for is there
pub is_there : (nodes : List Node) (place : ℕ) (n : Node) → node_in nodes place ≡ Some n → place < length nodes
is_there [] place n e = cc
is_there (m ∷ older) place n e = cases (is_there older place n) (place == length older) refl e
  where
    cases : (node_in older place ≡ Some n → place < length older) → (b : Bool) → (place == length older) ≡ b → (if b then Some m else node_in older place) ≡ Some n → place < suc (length older)
    cases below true h e = omega (arith, eqb-true place (length older) h)
    cases below false h e = omega (arith, below e)
