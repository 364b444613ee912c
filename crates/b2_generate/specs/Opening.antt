-- How a main target is opened, and what is said of those that are open.
use Rattle.std.specs.Prelude.{◌≡◌, ◌⊎◌, ℕ, true, List, [], ◌∷◌, ◌++◌, Option, Some, None, Result, Ok, Err, IfOk, IfErr, OnOk, map, reverse}
use Rattle.std.specs.FinMap as finite
use Rattle.b2_props.specs.Sets.{Pair}
use Rattle.b2_declared.specs.declared.whole.Declared.{Declared}
use Rattle.b2_references.specs.Names.{Name, is_target, target_text}
use Rattle.b2_evaluator.specs.Answers.{Answers}
use Rattle.b2_evaluator.specs.declared.evaluate.Evaluate.{Ghosts as Evaluate}
use Rattle.b2_alternatives.specs.Choosing.{Chooses, Returned}
use Rattle.b2_alternatives.specs.Needs.{at_first}
use Rattle.b2_alternatives.specs.Picking.{seen}
use Rattle.b2_declared.specs.Numbered.{IsNumbered}
use Rattle.b2_alternatives.specs.DependencyWork.{StandAt}
use Rattle.b2_alternatives.specs.declared.asker.Asker.{Asker}
use Rattle.b2_alternatives.specs.declared.conflict.Conflict.{Conflict}
use Rattle.b2_alternatives.specs.declared.fault.ChoiceFault.{ChoiceFault}
use Rattle.b2_generate.specs.Answers.{HaveSets}
use Rattle.b2_generate.specs.Faults.{Fault, not_chosen}
use Rattle.b2_generate.specs.Generation.{from_first}
use Rattle.b2_generate.specs.Nodes.{row_of, first_in, AreDated}
use Rattle.b2_generate.specs.Tables.{Table}
use Rattle.b2_generate.specs.ToldOutcomes.{IsRefusal}
use Rattle.b2_generate.specs.declared.node.Node.{Node}
use Rattle.b2_generate.specs.declared.frame.Frame.{Frame}
use Rattle.b2_generate.specs.declared.stack.Stack.{Stack}
use Rattle.b2_generate.specs.declared.fault.GenFault.{GenFault}
use Rattle.b2_generate.specs.declared.fault.GenFault.TheVariants.{UsageConflict, OutOfMemory}

-- the open main targets, the newest first
abbrev pub frames : Stack → List Frame
frames s = s.newest ∷ reverse s.below.items

-- the nodes and the look-up of their places are kept rightly, and the properties of each node are a set
pub record AreReady (d : Declared) (nodes : List Node) (places : Table ℕ) : Type 0 where
  pub numbered : IsNumbered d
  pub dated : AreDated nodes
  pub firsts : (name : Name) → finite.get places name ≡ first_in nodes name
  pub sets : HaveSets d (map row_of nodes)

-- a main target was opened for a set, and nothing was generated for it
pub record IsOpened (d : Declared) (name : Name) (set : List Pair) (bound : ℕ) (f : Frame) : Type 0 where
  pub named : f.name ≡ name
  pub asked : f.asked ≡ set
  pub there : is_target d name ≡ true
  pub stand : StandAt d f.chosen.target.now (at_first f.chosen.set) f.needs
  pub none : f.done ≡ []
  pub empty : f.places ≡ finite.empty
  pub earliest : f.earliest ≡ bound

-- no alternative is settled on for this reason
pub record IsUnchosen {E : Type 0} (d : Declared) (returned : Returned E) (name : Name) (set : List Pair) (fault : Fault E) : Type 0 where
  pub why : ChoiceFault E
  pub is : fault ≡ not_chosen why
  pub chooses : Chooses d returned name set (Err why)

-- a main target is opened with what is chosen for it
abbrev pub OpensBy : {S E F : Type 0} → Asker S → Answers E → Name → List Pair → Result Frame F → Type 0
OpensBy asker told name set result = IfOk result (λ f. Chooses asker.index.now told.returned name set (Ok (seen name f.chosen)))

-- nothing is chosen for it, for the reason that is answered, unless that is the host or memory
abbrev pub RefusesBy : {S E T : Type 0} → Evaluate S E → Asker S → Answers E → Name → List Pair → Result T (GenFault E) → Type 0
RefusesBy e asker told name set result =
    IfErr result (IsRefusal e.is_host_fault e.is_out_of_memory (IsUnchosen asker.index.now told.returned name set))

-- the texts of those of some main targets that stand from the first of a name on
abbrev pub texts_from : Declared → Name → List Name → List (List ℕ)
texts_from d name names = map (target_text d) (from_first name names)

-- a further main target came after any that stood before
abbrev pub AddsFrom : {T F : Type 0} → Declared → Name → Name → List (List ℕ) → List (List ℕ) → Result T F → Type 0
AddsFrom d name next old new result = (before : List Name) → old ≡ texts_from d name before → OnOk result (new ≡ texts_from d name (before ++ next ∷ []))

-- the answer is a conflict that was found for a main target, or out of memory
abbrev pub IsConflict : {E : Type 0} → Declared → Name → Option Conflict → GenFault E → Type 0
IsConflict d name None fault = fault ≡ OutOfMemory
IsConflict d name (Some found) fault = (fault ≡ OutOfMemory) ⊎ (fault ≡ UsageConflict (target_text d name) found.feature found.first found.second)
