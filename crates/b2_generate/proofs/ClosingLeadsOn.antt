-- What an open main target that is generated says of the oldest one.
use Rattle.std.proofs.Common.{◌≡◌, ◌<◌, ℕ, Bool, true, false, true≢false, List, [], ◌∷◌, ◌++◌, Some, Ok, Err, length, map, refl, sym, ap, subst, ◌∙◌}
use Rattle.std.specs.Cmp.{IsEquivalence}
use Rattle.std.proofs.lemmas.Map.Views.{list_any-from_Contains}
use Rattle.b2_plan.specs.declared.step.Step.{Step}
use Rattle.b2_props.specs.Sets.{Pair}
use Rattle.b2_virtual.specs.Joining.{is_same}
use Rattle.b2_virtual.proofs.JoinedStepsKeepTheirNumbers.{same_is_equal}
use Rattle.b2_declared.specs.declared.whole.Declared.{Declared}
use Rattle.b2_references.specs.Names.{Name, is_among, target_text, name_of}
use Rattle.b2_alternatives.specs.declared.conflict.Conflict.{Conflict}
use Rattle.b2_alternatives.specs.declared.need.Next.TheVariants.{Complete}
use Rattle.b2_alternatives.specs.Picking.{seen}
use Rattle.b2_making.specs.Answers.{Grows}
use Rattle.b2_generate.specs.Answers.{Generated}
use Rattle.b2_generate.specs.Faults.{usage_conflict}
use Rattle.b2_generate.specs.Generation.{Generates, Finishes}
use Rattle.b2_making.specs.Laws.{StandIn}
use Rattle.b2_generate.specs.LoadedProjects.{LoadedProject}
use Rattle.b2_generate.specs.Machine.{frame_of, standing_of, names_of, AreKept}
use Rattle.b2_generate.specs.Making.{given_of}
use Rattle.b2_generate.specs.Measure.{turns_left}
use Rattle.b2_generate.specs.Nodes.{entry_in, given_by, AreLate}
use Rattle.b2_generate.specs.Opening.{AreReady}
use Rattle.b2_generate.specs.Remembered.{AreMade}
use Rattle.b2_generate.specs.Stack as stacks
use Rattle.b2_generate.specs.Stack.{IsUnderWay, opened}
use Rattle.b2_generate.specs.OpenTargets.{conflict, next}
use Rattle.b2_generate.specs.Tables.{Table}
use Rattle.b2_generate.specs.Taking.{IsTaken}
use Rattle.b2_generate.specs.Turning.{GoOn, turns_of}
use Rattle.b2_generate.specs.declared.frame.Frame.{Frame}
use Rattle.b2_generate.specs.declared.making.TargetOutput.{TargetOutput}
use Rattle.b2_generate.specs.declared.node.Node.{Node}
use Rattle.b2_generate.proofs.NodesAreGivenAgain.{made_stay}
use Rattle.b2_generate.proofs.NewNodeKeepsOpenTargets.{frame_later, frames_later, standing_later, all_later}
use Rattle.b2_generate.proofs.SameNamesAreEqual.{turned}
use Rattle.b2_generate.proofs.OlderNodesStay.{entry_newest}
use Rattle.b2_generate.proofs.StackLeadsToTheOutcome.{newest, ended, ends, closes, falls_between}
use Rattle.b2_generate.proofs.EachStepLeavesFewerTurns.{closing_leaves}

same_ways : (x y : Step) (a b : Bool) → is_same x y ≡ a → is_same y x ≡ b → a ≡ b
same_ways x y true true p q = refl
same_ways x y false false p q = refl
same_ways x y true false p q = absurd (true≢false (sym ((same_is_equal y x).1 (sym ((same_is_equal x y).0 p))) ∙ q))
same_ways x y false true p q = absurd (true≢false (sym ((same_is_equal x y).1 (sym ((same_is_equal y x).0 q))) ∙ p))

same_steps : IsEquivalence is_same
same_steps = record {
  refl = λ x. (same_is_equal x x).1 refl;
  symm = λ x y. same_ways x y (is_same x y) (is_same y x) refl refl;
  congr = λ x y z e. ap (λ (step : Step). is_same step z) ((same_is_equal x y).0 e);
}

-- steps stand among themselves
own_stand : (steps : List Step) → StandIn steps steps
own_stand steps step c = list_any-from_Contains same_steps step steps c

-- what it gives
abbrev pub gives_of : List Node → Frame → TargetOutput → Generated
gives_of nodes f made = given_of (seen f.name f.chosen) (standing_of nodes f) made

module _ (d : Declared) (nodes : List Node) (f : Frame) (below : List Frame) (made : TargetOutput) (n : Node) (kept : AreKept nodes d (f ∷ below)) (named : n.name ≡ f.name) (gives : given_by nodes n ≡ gives_of nodes f made) where
  entry_last : entry_in (n ∷ nodes) (length nodes) ≡ (f.name, gives_of nodes f made)
  entry_last = entry_newest n nodes ∙ (λ i. (named i, gives i))

  -- those below it are kept rightly
  pub below_kept : AreKept (n ∷ nodes) d below
  below_kept = all_later turned d n nodes below kept.3 (ap (is_among (names_of below)) named ∙ kept.0)

module _ (d : Declared) (nodes : List Node) (f g : Frame) (rest : List Frame) (made : TargetOutput) (n : Node) (kept : AreKept nodes d (f ∷ g ∷ rest)) (named : n.name ≡ f.name) (gives : given_by nodes n ≡ gives_of nodes f made) where
  last_one : entry_in (n ∷ nodes) (length nodes) ≡ (f.name, gives_of nodes f made)
  last_one = entry_last d nodes f (g ∷ rest) made n kept named gives

  pub conflict_below : conflict d (standing_of (n ∷ nodes) g) (entry_in (n ∷ nodes) (length nodes)).1 ≡ conflict d (standing_of nodes g) (gives_of nodes f made)
  conflict_below =
      ap (λ s. conflict d s (entry_in (n ∷ nodes) (length nodes)).1) (standing_later n nodes g kept.3.2.places.there)
      ∙ ap (λ (e : Name × Generated). conflict d (standing_of nodes g) e.1) last_one

  module _ (after : Frame) (took : IsTaken d (n ∷ nodes) (length nodes) g after) where
    frames_closed : map (frame_of (n ∷ nodes)) (after ∷ rest) ≡ stacks.supplied d (frame_of nodes g) f.name (gives_of nodes f made) ∷ map (frame_of nodes) rest
    frames_closed = λ i.
        (took.stands
        ∙ ap (λ k. stacks.supplied d k (entry_in (n ∷ nodes) (length nodes)).0 (entry_in (n ∷ nodes) (length nodes)).1) (frame_later n nodes g kept.3.2.places.there)
        ∙ ap (λ (e : Name × Generated). stacks.supplied d (frame_of nodes g) e.0 e.1) last_one) i
        ∷ frames_later d n nodes rest kept.3.3 i

    pub closed_goes : (firsts : Table ℕ) → AreReady d (n ∷ nodes) firsts → GoOn d (turns_of d nodes (f ∷ g ∷ rest)) (n ∷ nodes) firsts (after ∷ rest)
    closed_goes firsts ready =
        let those : AreKept (n ∷ nodes) d (g ∷ rest) = below_kept d nodes f (g ∷ rest) made n kept named gives in
        let alike : after.name ≡ g.name = ap (λ k. k.name) took.stands in
        record {
          ready = ready;
          kept = (
            subst (λ (m : Name). is_among (names_of rest) m ≡ false) (sym alike) those.0,
            subst (λ (m : Name). AreLate (n ∷ nodes) after.earliest (names_of rest ++ m ∷ [])) (sym alike) (subst (λ (e : ℕ). AreLate (n ∷ nodes) e (names_of (g ∷ rest))) (sym took.earliest) those.1),
            took.kept,
            those.3,
          );
          fewer = subst (λ fs. turns_left (map name_of d.targets) fs < turns_of d nodes (f ∷ g ∷ rest)) (sym frames_closed)
              (closing_leaves d (map name_of d.targets) (frame_of nodes f) (frame_of nodes g) (map (frame_of nodes) rest) (gives_of nodes f made));
        }

module _ {E : Type 0} (l : LoadedProject E) (name : Name) (set : List Pair) (start : List Step) (nodes : List Node) (f : Frame) (before after : List Step) (made : TargetOutput)
    (complete : next l.declared (seen f.name f.chosen) (standing_of nodes f) ≡ Complete) (finishes : Finishes l (seen f.name f.chosen) (standing_of nodes f) before (Ok (gives_of nodes f made, after))) where
  -- it was made
  pub made_more : (below : List Frame) (n : Node) → IsUnderWay l name set start (map (frame_of nodes) (f ∷ below)) before → AreMade l nodes before
      → n.name ≡ f.name → n.asked ≡ f.asked → given_by nodes n ≡ gives_of nodes f made → Grows l.roots before after → AreMade l (n ∷ nodes) after
  made_more below n way were named asked gives grows =
      let new = newest l name set start (frame_of nodes f) (map (frame_of nodes) below) before way in
      let is : Generates l (opened (map (frame_of nodes) below)) f.name f.asked new.0 (Ok (gives_of nodes f made, after)) =
      ended l (opened (map (frame_of nodes) below)) (frame_of nodes f) new.0 before (Ok (gives_of nodes f made, after)) new.1 complete finishes in (
        record {
          above = opened (map (frame_of nodes) below);
          before = new.0;
          after = after;
          generates = subst (λ (m : Name). Generates l (opened (map (frame_of nodes) below)) m n.asked new.0 (Ok (given_by nodes n, after))) (sym named)
              (subst (λ (s : List Pair). Generates l (opened (map (frame_of nodes) below)) f.name s new.0 (Ok (given_by nodes n, after))) (sym asked)
              (subst (λ (g : Generated). Generates l (opened (map (frame_of nodes) below)) f.name f.asked new.0 (Ok (g, after))) (sym gives) is));
          stand = own_stand after;
        },
        subst (AreMade l nodes) (sym grows.joined) (made_stay l nodes before grows.more were),
      )

  -- the oldest is generated
  pub oldest_ends : (n : Node) → IsUnderWay l name set start (map (frame_of nodes) (f ∷ [])) before → AreKept nodes l.declared (f ∷ []) → n.name ≡ f.name → given_by nodes n ≡ gives_of nodes f made
      → Generates l [] name set start (Ok ((entry_in (n ∷ nodes) (length nodes)).1, after))
  oldest_ends n way kept named gives =
      subst (λ (e : Name × Generated). Generates l [] name set start (Ok (e.1, after))) (sym (entry_last l.declared nodes f [] made n kept named gives))
      (ends l name set start (frame_of nodes f) before (Ok (gives_of nodes f made, after)) way complete finishes)

  module _ (g : Frame) (rest : List Frame) (n : Node) (way : IsUnderWay l name set start (map (frame_of nodes) (f ∷ g ∷ rest)) before) (kept : AreKept nodes l.declared (f ∷ g ∷ rest))
      (named : n.name ≡ f.name) (gives : given_by nodes n ≡ gives_of nodes f made) where
    -- the one below it goes on
    pub closed_leads : (last : Frame) → IsTaken l.declared (n ∷ nodes) (length nodes) g last → IsUnderWay l name set start (map (frame_of (n ∷ nodes)) (last ∷ rest)) after
    closed_leads last took =
        subst (λ fs. IsUnderWay l name set start fs after) (sym (frames_closed l.declared nodes f g rest made n kept named gives last took))
        (closes l name set start (frame_of nodes f) (frame_of nodes g) (map (frame_of nodes) rest) before after (gives_of nodes f made) way complete finishes
        (sym (conflict_below l.declared nodes f g rest made n kept named gives) ∙ took.fits))

    -- it does not go with what the one below it met
    pub closed_clashes : (found : Conflict) → conflict l.declared (standing_of (n ∷ nodes) g) (entry_in (n ∷ nodes) (length nodes)).1 ≡ Some found
        → Generates l [] name set start (Err (usage_conflict (target_text l.declared g.name) found.feature found.first found.second))
    closed_clashes found clash =
        falls_between l name set start (frame_of nodes f) (frame_of nodes g) (map (frame_of nodes) rest) before after (gives_of nodes f made) found way complete finishes
        (sym (conflict_below l.declared nodes f g rest made n kept named gives) ∙ clash)
