-- What closing an open main target says of the oldest one, by what the code answers when it became a node.
use Rattle.std.proofs.Common.{arith, ◌≡◌, ◌<◌, ℕ, List, [], ◌∷◌, ◌++◌, Some, Ok, Err, length, map, reverse, refl, sym, ap, subst, ◌∙◌}
use Rattle.std.proofs.lemmas.List.{reverse-append}
use Rattle.b2_plan.specs.declared.step.Step.{Step}
use Rattle.b2_props.specs.Sets.{Pair}
use Rattle.b2_declared.specs.declared.whole.Declared.{Declared}
use Rattle.b2_references.specs.Names.{Name, target_text}
use Rattle.b2_alternatives.specs.declared.conflict.Conflict.{Conflict}
use Rattle.b2_alternatives.specs.declared.need.Next.TheVariants.{Complete}
use Rattle.b2_alternatives.specs.Picking.{seen}
use Rattle.b2_making.specs.Answers.{Grows}
use Rattle.b2_generate.specs.Faults.{usage_conflict}
use Rattle.b2_generate.specs.Generation.{Generates, Finishes}
use Rattle.b2_generate.specs.LoadedProjects.{LoadedProject}
use Rattle.b2_generate.specs.Machine.{frame_of, standing_of, IsKept, AreKept}
use Rattle.b2_generate.specs.Nodes.{entry_in, AreAdded}
use Rattle.b2_generate.specs.Opening.{AreReady}
use Rattle.b2_generate.specs.Remembered.{AreMade}
use Rattle.b2_generate.specs.Stack.{IsUnderWay}
use Rattle.b2_generate.specs.OpenTargets.{conflict, next}
use Rattle.b2_generate.specs.Tables.{Table}
use Rattle.b2_generate.specs.Taking.{IsTaken}
use Rattle.b2_generate.specs.Turning.{IsCompleted, GoOn, IsOver, turns_of}
use Rattle.b2_generate.specs.declared.frame.Frame.{Frame}
use Rattle.b2_generate.specs.declared.making.TargetOutput.{TargetOutput}
use Rattle.b2_generate.specs.declared.node.Node.{Node}
use Rattle.b2_generate.proofs.ClosingLeadsOn.{gives_of, below_kept, closed_goes, made_more, oldest_ends, closed_leads, closed_clashes}

-- ---- the open main targets below the newest

pub none_below : (items : List Frame) → length items ≡ 0 → reverse items ≡ []
none_below [] e = refl
none_below (f ∷ more) e = absurd (omega (arith, e))

pub one_below : (items rest : List Frame) (g : Frame) → items ≡ rest ++ g ∷ [] → reverse items ≡ g ∷ reverse rest
one_below items rest g e = ap (λ (fs : List Frame). reverse fs) e ∙ reverse-append rest (g ∷ [])

-- ---- an open main target that became a node

module _ (d : Declared) (nodes : List Node) (f : Frame) (below : List Frame) (made : TargetOutput) (new_nodes : List Node) (firsts : Table ℕ) (place : ℕ) (done : IsCompleted d nodes f made new_nodes firsts place) where
  pub done_over : IsOver d new_nodes firsts place
  done_over = record { ready = done.ready; there = subst (λ (ns : List Node). place < length ns) (sym done.nodes) (omega (arith, done.place_is)) }

  pub done_adds : AreAdded nodes new_nodes
  done_adds = record { newer = done.node ∷ []; joined = done.nodes }

  taken_last : (g after : Frame) → IsTaken d new_nodes place g after → IsTaken d (done.node ∷ nodes) (length nodes) g after
  taken_last g after took = subst (λ (ns : List Node). IsTaken d ns (length nodes) g after) done.nodes (subst (λ (k : ℕ). IsTaken d new_nodes k g after) done.place_is took)

  module _ (kept : AreKept nodes d (f ∷ below)) (g : Frame) (rest : List Frame) (is : below ≡ g ∷ rest) where
    kept_as : AreKept nodes d (f ∷ g ∷ rest)
    kept_as = subst (λ (fs : List Frame). AreKept nodes d (f ∷ fs)) is kept

    pub done_kept : IsKept new_nodes d g
    done_kept = subst (λ (ns : List Node). IsKept ns d g) (sym done.nodes) (below_kept d nodes f (g ∷ rest) made done.node kept_as done.named done.gives).2

    pub done_goes : (after : Frame) → IsTaken d new_nodes place g after → GoOn d (turns_of d nodes (f ∷ below)) new_nodes firsts (after ∷ rest)
    done_goes after took =
        subst (λ (fs : List Frame). GoOn d (turns_of d nodes (f ∷ fs)) new_nodes firsts (after ∷ rest)) (sym is)
        (subst (λ (ns : List Node). GoOn d (turns_of d nodes (f ∷ g ∷ rest)) ns firsts (after ∷ rest)) (sym done.nodes)
        (closed_goes d nodes f g rest made done.node kept_as done.named done.gives after (taken_last g after took) firsts (subst (λ (ns : List Node). AreReady d ns firsts) done.nodes done.ready)))

module _ {E : Type 0} (l : LoadedProject E) (name : Name) (set : List Pair) (start : List Step) (nodes : List Node) (f : Frame) (below : List Frame) (before after : List Step) (made : TargetOutput)
    (new_nodes : List Node) (firsts : Table ℕ) (place : ℕ) (done : IsCompleted l.declared nodes f made new_nodes firsts place) (kept : AreKept nodes l.declared (f ∷ below))
    (complete : next l.declared (seen f.name f.chosen) (standing_of nodes f) ≡ Complete) (finishes : Finishes l (seen f.name f.chosen) (standing_of nodes f) before (Ok (gives_of nodes f made, after)))
    (way : IsUnderWay l name set start (map (frame_of nodes) (f ∷ below)) before) where
  pub done_made : AreMade l nodes before → Grows l.roots before after → AreMade l new_nodes after
  done_made were grows =
      subst (λ (ns : List Node). AreMade l ns after) (sym done.nodes)
      (made_more l name set start nodes f before after made complete finishes below done.node way were done.named done.asked done.gives grows)

  pub done_ends : below ≡ [] → Generates l [] name set start (Ok ((entry_in new_nodes place).1, after))
  done_ends is =
      subst (λ (ns : List Node). Generates l [] name set start (Ok ((entry_in ns place).1, after))) (sym done.nodes)
      (subst (λ (k : ℕ). Generates l [] name set start (Ok ((entry_in (done.node ∷ nodes) k).1, after))) (sym done.place_is)
      (oldest_ends l name set start nodes f before after made complete finishes done.node
      (subst (λ (fs : List Frame). IsUnderWay l name set start (map (frame_of nodes) (f ∷ fs)) before) is way) (subst (λ (fs : List Frame). AreKept nodes l.declared (f ∷ fs)) is kept) done.named done.gives))

  module _ (g : Frame) (rest : List Frame) (is : below ≡ g ∷ rest) where
    way_as : IsUnderWay l name set start (map (frame_of nodes) (f ∷ g ∷ rest)) before
    way_as = subst (λ (fs : List Frame). IsUnderWay l name set start (map (frame_of nodes) (f ∷ fs)) before) is way

    pub done_leads : (last : Frame) → IsTaken l.declared new_nodes place g last → IsUnderWay l name set start (map (frame_of new_nodes) (last ∷ rest)) after
    done_leads last took =
        subst (λ (ns : List Node). IsUnderWay l name set start (map (frame_of ns) (last ∷ rest)) after) (sym done.nodes)
        (closed_leads l name set start nodes f before after made complete finishes g rest done.node way_as (kept_as l.declared nodes f below made new_nodes firsts place done kept g rest is) done.named done.gives last
        (taken_last l.declared nodes f below made new_nodes firsts place done g last took))

    pub done_clashes : (found : Conflict) → conflict l.declared (standing_of new_nodes g) (entry_in new_nodes place).1 ≡ Some found
        → Generates l [] name set start (Err (usage_conflict (target_text l.declared g.name) found.feature found.first found.second))
    done_clashes found clash =
        closed_clashes l name set start nodes f before after made complete finishes g rest done.node way_as (kept_as l.declared nodes f below made new_nodes firsts place done kept g rest is) done.named done.gives found
        (subst (λ (ns : List Node). conflict l.declared (standing_of ns g) (entry_in ns (length nodes)).1 ≡ Some found) done.nodes
        (subst (λ (k : ℕ). conflict l.declared (standing_of new_nodes g) (entry_in new_nodes k).1 ≡ Some found) done.place_is clash))
