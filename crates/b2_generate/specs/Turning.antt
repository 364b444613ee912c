-- What one turn of generation does.
use Rattle.std.specs.Prelude.{◌≡◌, ◌<◌, ℕ, Bool, List, [], ◌∷◌, Option, Some, None, Result, Ok, Err, IfOk, OnOk, map, length, reverse, if◌then◌else◌}
use Rattle.std.specs.Option.{option_or, unwrap_or}
use Rattle.std.specs.FinMap as finite
use Rattle.b2_plan.specs.declared.step.Step.{Step}
use Rattle.b2_props.specs.Sets.{Pair, IsSet}
use Rattle.b2_declared.specs.declared.whole.Declared.{Declared}
use Rattle.b2_evaluator.specs.Answers.{Answers}
use Rattle.b2_references.specs.Names.{Name, name_of, is_same, features}
use Rattle.b2_alternatives.specs.Picking.{seen}
use Rattle.b2_making.specs.Answers.{Grows}
use Rattle.b2_generate.specs.Generation.{Generates}
use Rattle.b2_generate.specs.LoadedProjects.{LoadedProject}
use Rattle.b2_generate.specs.Machine.{standing_of, frame_of, AreKept}
use Rattle.b2_generate.specs.Making.{IsLatest, given_of}
use Rattle.b2_generate.specs.Measure.{turns_left}
use Rattle.b2_generate.specs.Nodes.{entry_in, given_by, AreAdded}
use Rattle.b2_generate.specs.Opening.{AreReady}
use Rattle.b2_generate.specs.Remembered.{AreMade}
use Rattle.b2_generate.specs.Stack.{IsUnderWay}
use Rattle.b2_generate.specs.Tables.{Table}
use Rattle.b2_generate.specs.ToldOutcomes.{IsRefusal, Leaves, loaded_of}
use Rattle.b2_generate.specs.declared.completing.Nodes.{Nodes}
use Rattle.b2_generate.specs.declared.fault.GenFault.{GenFault}
use Rattle.b2_generate.specs.declared.frame.Frame.{Frame}
use Rattle.b2_generate.specs.declared.making.TargetOutput.{TargetOutput}
use Rattle.b2_generate.specs.declared.node.Node.{Node}

-- the node that an open main target becomes
pub record IsNodeOf (f : Frame) (made : TargetOutput) (latest : ℕ) (n : Node) : Type 0 where
  pub named : n.name ≡ f.name
  pub asked : n.asked ≡ f.asked
  pub numbered : n.number ≡ f.chosen.number
  pub set : n.set ≡ made.set
  pub supply : n.supply ≡ made.supply
  pub usage : n.usage ≡ made.usage
  pub children : n.children ≡ f.done
  pub latest_is : n.latest ≡ latest

-- a node of a main target was noted at a place: that is its first one, where there was none before
pub record IsNoted (name : Name) (place : ℕ) (old new : Table ℕ) : Type 0 where
  pub firsts : (other : Name) → finite.get new other ≡ option_or (finite.get old other) (if is_same other name then Some place else None)

-- an open main target became a further node, at this place
pub record IsCompleted (d : Declared) (old : List Node) (f : Frame) (made : TargetOutput) (new : List Node) (firsts : Table ℕ) (place : ℕ) : Type 0 where
  pub node : Node
  pub nodes : new ≡ node ∷ old
  pub place_is : place ≡ length old
  pub named : node.name ≡ f.name
  pub asked : node.asked ≡ f.asked
  pub gives : given_by old node ≡ given_of (seen f.name f.chosen) (standing_of old f) made
  pub ready : AreReady d new firsts

-- each main target that was opened for an open one was generated first at this place or before it, and so was the open one
abbrev pub IsLatestFor : Nodes → Frame → ℕ → Type 0
IsLatestFor nodes f latest = IsLatest (reverse nodes.list.items) f.done (unwrap_or (finite.get nodes.firsts f.name) (length nodes.list.items)) latest

-- an open main target, whose final properties are a set, became a further node, at the place that is answered
abbrev pub Completes : {F : Type 0} → Nodes → Frame → TargetOutput → Nodes → Result ℕ F → Type 0
Completes old f made new result =
    (d : Declared) → AreReady d (reverse old.list.items) old.firsts → IsSet (features d) made.set → IfOk result (IsCompleted d (reverse old.list.items) f made (reverse new.list.items) new.firsts)

-- the turns that are left for some open main targets
abbrev pub turns_of : Declared → List Node → List Frame → ℕ
turns_of d nodes open_frames = turns_left (map name_of d.targets) (map (frame_of nodes) open_frames)

-- some main targets are open after a turn, and fewer turns are left
pub record GoOn (d : Declared) (before : ℕ) (nodes : List Node) (firsts : Table ℕ) (open_frames : List Frame) : Type 0 where
  pub ready : AreReady d nodes firsts
  pub kept : AreKept nodes d open_frames
  pub fewer : turns_of d nodes open_frames < before

-- the oldest main target is generated
pub record IsOver (d : Declared) (nodes : List Node) (firsts : Table ℕ) (place : ℕ) : Type 0 where
  pub ready : AreReady d nodes firsts
  pub there : place < length nodes

-- what is known after a turn on every host; the answer is the place of the oldest main target, where it is generated
abbrev pub IsTurned : {E : Type 0} → Declared → ℕ → List Node → Table ℕ → List Frame → Result (Option ℕ) (GenFault E) → Type 0
IsTurned d before nodes firsts open_frames (Ok None) = GoOn d before nodes firsts open_frames
IsTurned d before nodes firsts open_frames (Ok (Some place)) = IsOver d nodes firsts place
IsTurned d before nodes firsts open_frames (Err fault) = Unit {0}

-- where the project's own text is told, the oldest main target is under way, or this is its outcome
abbrev pub Leads : {E : Type 0} → LoadedProject E → (E → Bool) → (E → Bool) → Name → List Pair → List Step → List Node → List Frame → List Step → Result (Option ℕ) (GenFault E) → Type 0
Leads l is_host is_out name set start nodes open_frames steps (Ok None) =
    IsUnderWay l name set start (map (frame_of nodes) open_frames) steps × AreMade l nodes steps
Leads l is_host is_out name set start nodes open_frames steps (Ok (Some place)) =
    Generates l [] name set start (Ok ((entry_in nodes place).1, steps)) × AreMade l nodes steps
Leads l is_host is_out name set start nodes open_frames steps (Err fault) =
    IsRefusal is_host is_out (λ why. Generates l [] name set start (Err why)) fault

-- a turn leads on for each main target that was under way
abbrev pub LeadsOn : {E : Type 0} → LoadedProject E → (E → Bool) → (E → Bool) → List Node → List Frame → List Step → List Node → List Frame → List Step → Result (Option ℕ) (GenFault E) → Type 0
LeadsOn l is_host is_out old old_frames before new new_frames after result =
    (name : Name) (set : List Pair) (start : List Step) → IsUnderWay l name set start (map (frame_of old) old_frames) before → AreMade l old before
    → Leads l is_host is_out name set start new new_frames after result

-- all that is promised of a turn, from these open main targets to those
pub record IsTurn {S E K : Type 0} (answers : S → Option (Answers E)) (kept : S → K) (faults : S → ℕ) (is_host is_out : E → Bool) (CanFault : K → E → Type 0)
    (d : Declared) (roots : List (List ℕ)) (old_nodes : List Node) (old_frames : List Frame) (before : List Step) (old : S)
    (nodes : List Node) (firsts : Table ℕ) (open_frames : List Frame) (after : List Step) (new : S) (result : Result (Option ℕ) (GenFault E)) : Type 0 where
  pub turned : IsTurned d (turns_of d old_nodes old_frames) nodes firsts open_frames result
  pub adds : OnOk result (AreAdded old_nodes nodes)
  pub leads : (answered : Answers E) → answers old ≡ Some answered
      → LeadsOn (loaded_of d roots answered) is_host is_out old_nodes old_frames before nodes open_frames after result
  pub grows : Grows roots before after
  pub leaves : Leaves answers kept faults is_host is_out CanFault old new result

-- what a main target gives with a set, or why nothing
abbrev pub IsGenerated : {E : Type 0} → LoadedProject E → (E → Bool) → (E → Bool) → Name → List Pair → List Step → List Node → List Step → Result ℕ (GenFault E) → Type 0
IsGenerated l is_host is_out name set before nodes after (Ok place) =
    Generates l [] name set before (Ok ((entry_in nodes place).1, after)) × AreMade l nodes after
IsGenerated l is_host is_out name set before nodes after (Err fault) = IsRefusal is_host is_out (λ why. Generates l [] name set before (Err why)) fault

-- all that is promised where a main target is asked for with a set
pub record IsRequest {S E K : Type 0} (answers : S → Option (Answers E)) (kept : S → K) (faults : S → ℕ) (is_host is_out : E → Bool) (CanFault : K → E → Type 0)
    (d : Declared) (roots : List (List ℕ)) (name : Name) (set : List Pair) (old_nodes : List Node) (before : List Step) (old : S)
    (nodes : List Node) (firsts : Table ℕ) (after : List Step) (new : S) (result : Result ℕ (GenFault E)) : Type 0 where
  pub ready : OnOk result (AreReady d nodes firsts)
  pub adds : OnOk result (AreAdded old_nodes nodes)
  pub there : IfOk result (λ place. place < length nodes)
  pub generated : (answered : Answers E) → answers old ≡ Some answered → AreMade (loaded_of d roots answered) old_nodes before
      → IsGenerated (loaded_of d roots answered) is_host is_out name set before nodes after result
  pub grows : Grows roots before after
  pub leaves : Leaves answers kept faults is_host is_out CanFault old new result
