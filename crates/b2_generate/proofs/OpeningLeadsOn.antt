-- What a turn that opens a main target says of the oldest one.
use Rattle.std.proofs.Common.{◌≡◌, ℕ, Bool, true, false, List, [], ◌∷◌, Option, Some, None, Ok, Err, map, sym, ap, subst, ◌∙◌}
use Rattle.b2_plan.specs.declared.step.Step.{Step}
use Rattle.b2_props.specs.Sets.{Pair}
use Rattle.b2_references.specs.Names.{Name, is_among, target_text}
use Rattle.b2_alternatives.specs.Choosing.{Chooses}
use Rattle.b2_alternatives.specs.Picking.{seen}
use Rattle.b2_generate.specs.Faults.{Fault, target_cycle}
use Rattle.b2_generate.specs.LoadedProjects.{LoadedProject, returned}
use Rattle.b2_generate.specs.Generation.{Generates, from_first, cycle_of, is_open, choice_refused, refused}
use Rattle.b2_generate.specs.Machine.{frame_of, names_of}
use Rattle.b2_generate.specs.Opening.{IsOpened, IsUnchosen}
use Rattle.b2_generate.specs.Stack.{Waits, IsUnderWay, opened}
use Rattle.b2_generate.specs.ToldOutcomes.{IfFault, IsRefusal, fault_of}
use Rattle.b2_generate.specs.declared.fault.GenFault.{GenFault}
use Rattle.b2_generate.specs.declared.fault.GenFault.TheVariants.{TargetCycle}
use Rattle.b2_generate.specs.declared.frame.Frame.{Frame}
use Rattle.b2_generate.specs.declared.node.Node.{Node}
use Rattle.b2_generate.proofs.NewNodeKeepsOpenTargets.{names_are, opened_stands}
use Rattle.b2_generate.proofs.StackLeadsToTheOutcome.{opens, falls}

-- what holds of a fault, where something stronger does
if_weaker : {E : Type 0} (P Q : Fault E → Type 0) → ((fault : Fault E) → P fault → Q fault) → (o : Option (Fault E)) → IfFault P o → IfFault Q o
if_weaker P Q weaker None h = record {}
if_weaker P Q weaker (Some fault) h = weaker fault h

pub refusal_weaker : {E : Type 0} (is_host is_out : E → Bool) (P Q : Fault E → Type 0) → ((fault : Fault E) → P fault → Q fault) → (fault : GenFault E) → IsRefusal is_host is_out P fault → IsRefusal is_host is_out Q fault
refusal_weaker is_host is_out P Q weaker fault h = if_weaker P Q weaker (fault_of is_host is_out fault) h

module _ {E : Type 0} (l : LoadedProject E) (name : Name) (set : List Pair) (start : List Step) (nodes : List Node) (f : Frame) (below : List Frame) (steps : List Step) (needed : Name) (asked : List Pair)
    (way : IsUnderWay l name set start (map (frame_of nodes) (f ∷ below)) steps) (waits : Waits l.declared (frame_of nodes f) needed asked) where
  -- a fault of what is needed is the outcome of the oldest
  needed_falls : (fault : Fault E) → Generates l (opened (map (frame_of nodes) (f ∷ below))) needed asked steps (Err fault) → Generates l [] name set start (Err fault)
  needed_falls fault made =
      falls l name set start (frame_of nodes f) (map (frame_of nodes) below) steps fault way
      (refused (opened (map (frame_of nodes) (f ∷ below))) (frame_of nodes f).chosen (frame_of nodes f).stands steps needed fault waits.due
      (subst (λ (s : List Pair). Generates l (opened (map (frame_of nodes) (f ∷ below))) needed s steps (Err fault)) waits.handed made))

  -- what is needed is open
  pub cycle_falls : (is_host is_out : E → Bool) (targets : List (List ℕ)) → is_among (names_of (f ∷ below)) needed ≡ true → targets ≡ map (target_text l.declared) (from_first needed (names_of (f ∷ below)))
      → IsRefusal is_host is_out (λ why. Generates l [] name set start (Err why)) (TargetCycle targets)
  cycle_falls is_host is_out targets among are =
      subst (λ (ts : List (List ℕ)). Generates l [] name set start (Err (target_cycle ts)))
      (sym (are ∙ ap (λ (ns : List Name). map (target_text l.declared) (from_first needed ns)) (sym (names_are nodes (f ∷ below)))))
      (needed_falls (cycle_of l needed (opened (map (frame_of nodes) (f ∷ below))))
      (is_open (opened (map (frame_of nodes) (f ∷ below))) needed asked steps (ap (λ (ns : List Name). is_among ns needed) (names_are nodes (f ∷ below)) ∙ among)))

  not_open : is_among (names_of (f ∷ below)) needed ≡ false → is_among (opened (map (frame_of nodes) (f ∷ below))) needed ≡ false
  not_open closed = ap (λ (ns : List Name). is_among ns needed) (names_are nodes (f ∷ below)) ∙ closed

  unchosen_one : is_among (names_of (f ∷ below)) needed ≡ false → (fault : Fault E) → IsUnchosen l.declared (returned l) needed asked fault → Generates l [] name set start (Err fault)
  unchosen_one closed fault why =
      needed_falls fault
      (subst (λ (e : Fault E). Generates l (opened (map (frame_of nodes) (f ∷ below))) needed asked steps (Err e)) (sym why.is)
      (choice_refused (opened (map (frame_of nodes) (f ∷ below))) needed asked steps why.why (not_open closed) why.chooses))

  -- no alternative of it is settled on
  pub unchosen_falls : (is_host is_out : E → Bool) (fault : GenFault E) → is_among (names_of (f ∷ below)) needed ≡ false → IsRefusal is_host is_out (IsUnchosen l.declared (returned l) needed asked) fault
      → IsRefusal is_host is_out (λ why. Generates l [] name set start (Err why)) fault
  unchosen_falls is_host is_out fault closed h =
      refusal_weaker is_host is_out (IsUnchosen l.declared (returned l) needed asked) (λ why. Generates l [] name set start (Err why)) (unchosen_one closed) fault h

  -- it is opened
  pub opened_leads : (bound : ℕ) (g : Frame) → is_among (names_of (f ∷ below)) needed ≡ false → IsOpened l.declared needed asked bound g → Chooses l.declared (returned l) needed asked (Ok (seen needed g.chosen))
      → IsUnderWay l name set start (map (frame_of nodes) (g ∷ f ∷ below)) steps
  opened_leads bound g closed is chooses =
      subst (λ k. IsUnderWay l name set start (k ∷ map (frame_of nodes) (f ∷ below)) steps) (sym (opened_stands nodes l.declared needed asked bound g is))
      (opens l name set start (frame_of nodes f) (map (frame_of nodes) below) steps needed asked (seen needed g.chosen) way waits (not_open closed) chooses)
