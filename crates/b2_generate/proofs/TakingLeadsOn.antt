-- Taking a remembered node keeps the oldest open main target under way, and a conflict is its outcome; for turns.
use Rattle.std.proofs.Common.{◌≡◌, inl, inr, ◌⊎◌, ℕ, Bool, List, [], ◌∷◌, Option, Some, None, Result, Ok, Err, map, refl, sym, ap, subst, ◌∙◌}
use Rattle.b2_plan.specs.declared.step.Step.{Step}
use Rattle.b2_props.specs.Sets.{Pair}
use Rattle.b2_declared.specs.declared.whole.Declared.{Declared}
use Rattle.b2_evaluator.specs.Answers.{Answers}
use Rattle.b2_references.specs.Names.{Name, target_text}
use Rattle.b2_alternatives.specs.declared.conflict.Conflict.{Conflict}
use Rattle.b2_making.specs.Answers.{Grows}
use Rattle.b2_generate.specs.Clear.{IsClear}
use Rattle.b2_generate.specs.Faults.{usage_conflict}
use Rattle.b2_generate.specs.Generation.{Generates}
use Rattle.b2_generate.specs.LoadedProjects.{LoadedProject}
use Rattle.b2_generate.specs.Machine.{frame_of, standing_of, names_of}
use Rattle.b2_generate.specs.Nodes.{entry_in}
use Rattle.b2_generate.specs.Opening.{IsConflict}
use Rattle.b2_generate.specs.Remembered.{IsAskedAt, AreMade}
use Rattle.b2_generate.specs.Stack as stacks
use Rattle.b2_generate.specs.Stack.{IsUnderWay, Waits, opened}
use Rattle.b2_generate.specs.OpenTargets.{conflict}
use Rattle.b2_generate.specs.Tables.{Table}
use Rattle.b2_generate.specs.Taking.{IsTaken}
use Rattle.b2_generate.specs.ToldOutcomes.{loaded_of}
use Rattle.b2_generate.specs.Turning.{IsTurn}
use Rattle.b2_generate.specs.declared.fault.GenFault.{GenFault}
use Rattle.b2_generate.specs.declared.fault.GenFault.TheVariants.{OutOfMemory, UsageConflict}
use Rattle.b2_generate.specs.declared.frame.Frame.{Frame}
use Rattle.b2_generate.specs.declared.node.Node.{Node}
use Rattle.b2_generate.proofs.NodesAreGivenAgain.{given_again}
use Rattle.b2_generate.proofs.MakingAgainGivesTheSame.{lawful}
use Rattle.b2_generate.proofs.NewNodeKeepsOpenTargets.{names_are}
use Rattle.b2_generate.proofs.OlderNodesStay.{entry_is}
use Rattle.b2_generate.proofs.StackLeadsToTheOutcome.{takes, clashes}
use Rattle.b2_generate.proofs.TurnKeepsItsPromise.{stopped, ran_out}

-- ---- a conflict

module _ {S E K : Type 0} {answers : S → Option (Answers E)} {kept : S → K} {faults : S → ℕ} {is_host is_out : E → Bool} {CanFault : K → E → Type 0}
    {d : Declared} {roots : List (List ℕ)} {old_nodes : List Node} {old_frames : List Frame} {before : List Step} {old : S}
    {nodes : List Node} {firsts : Table ℕ} {open_frames : List Frame} {after : List Step} {new : S} where
  clashed_one : (r : Result (Option ℕ) (GenFault E)) (fault : GenFault E) (target : Name) (found : Conflict) → r ≡ Err fault
      → (fault ≡ OutOfMemory) ⊎ (fault ≡ UsageConflict (target_text d target) found.feature found.first found.second) → Grows roots before after → ((answered : Answers E) → answers old ≡ Some answered → (name : Name) (set : List Pair) (start : List Step)
      → IsUnderWay (loaded_of d roots answered) name set start (map (frame_of old_nodes) old_frames) before → AreMade (loaded_of d roots answered) old_nodes before
      → Generates (loaded_of d roots answered) [] name set start (Err (usage_conflict (target_text d target) found.feature found.first found.second)))
      → answers new ≡ answers old → kept new ≡ kept old → faults new ≡ faults old → IsTurn answers kept faults is_host is_out CanFault d roots old_nodes old_frames before old nodes firsts open_frames after new r
  clashed_one r fault target found e (inl out) grows clash told held counted = ran_out r (e ∙ ap Err out) grows told held
  clashed_one r fault target found e (inr is) grows clash told held counted =
      stopped {T = Option ℕ} r (UsageConflict (target_text d target) found.feature found.first found.second) (e ∙ ap Err is) grows
      (λ answered known name set start way made. clash answered known name set start way made)
      (record { same_answers = told; same_kept = held; counted = counted; known = record {} })

  pub clashed : (r : Result (Option ℕ) (GenFault E)) (fault : GenFault E) (target : Name) (found : Option Conflict) → r ≡ Err fault → IsConflict d target found fault → Grows roots before after
      → ((one : Conflict) → found ≡ Some one → ((answered : Answers E) → answers old ≡ Some answered → (name : Name) (set : List Pair) (start : List Step)
      → IsUnderWay (loaded_of d roots answered) name set start (map (frame_of old_nodes) old_frames) before → AreMade (loaded_of d roots answered) old_nodes before
      → Generates (loaded_of d roots answered) [] name set start (Err (usage_conflict (target_text d target) one.feature one.first one.second)))) → answers new ≡ answers old → kept new ≡ kept old → faults new ≡ faults old → IsTurn answers kept faults is_host is_out CanFault d roots old_nodes old_frames before old nodes firsts open_frames after new r
  clashed r fault target None e is grows clash told held counted = ran_out r (e ∙ ap Err is) grows told held
  clashed r fault target (Some found) e is grows clash told held counted = clashed_one r fault target found e is grows (clash found refl) told held counted

-- ---- a node that is remembered

module _ (nodes : List Node) (f : Frame) (below : List Frame)
    (place : ℕ) (needed : Name) (asked : List Pair) (at : IsAskedAt nodes place needed asked) (clear : IsClear (names_of (f ∷ below)) nodes place) where
  pub entry_named : (entry_in nodes place).0 ≡ needed
  entry_named = (entry_is nodes place at.node at.there).name ∙ at.named

  module _ {E : Type 0} (l : LoadedProject E) (name : Name) (set : List Pair) (start : List Step) (steps : List Step)
      (way : IsUnderWay l name set start (map (frame_of nodes) (f ∷ below)) steps) (made : AreMade l nodes steps) (waits : Waits l.declared (frame_of nodes f) needed asked) where
    again : Generates l (opened (map (frame_of nodes) (f ∷ below))) needed asked steps (Ok ((entry_in nodes place).1, steps))
    again =
        given_again l (lawful l) nodes place needed asked steps (opened (map (frame_of nodes) (f ∷ below))) made at
        (subst (λ (names : List Name). IsClear names nodes place) (sym (names_are nodes (f ∷ below))) clear)

    pub taken_leads : (g : Frame) → IsTaken l.declared nodes place f g → IsUnderWay l name set start (map (frame_of nodes) (g ∷ below)) steps
    taken_leads g took =
        subst (λ k. IsUnderWay l name set start (k ∷ map (frame_of nodes) below) steps)
        (sym (took.stands ∙ ap (λ (n : Name). stacks.supplied l.declared (frame_of nodes f) n (entry_in nodes place).1) entry_named))
        (takes l name set start (frame_of nodes f) (map (frame_of nodes) below) steps steps needed asked (entry_in nodes place).1 way waits again took.fits)

    pub taken_clashes : (found : Conflict) → conflict l.declared (standing_of nodes f) (entry_in nodes place).1 ≡ Some found
        → Generates l [] name set start (Err (usage_conflict (target_text l.declared f.name) found.feature found.first found.second))
    taken_clashes found clash =
        clashes l name set start (frame_of nodes f) (map (frame_of nodes) below) steps steps needed asked (entry_in nodes place).1 found way waits again clash
