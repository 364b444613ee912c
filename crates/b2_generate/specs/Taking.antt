-- What an open main target takes of what was generated.
use Rattle.std.specs.Prelude.{◌≡◌, ℕ, List, [], ◌∷◌, ◌++◌, Some, None, if◌then◌else◌}
use Rattle.std.specs.Option.{option_or}
use Rattle.std.specs.FinMap as finite
use Rattle.b2_references.specs.Names.{Name, is_same}
use Rattle.b2_declared.specs.declared.whole.Declared.{Declared}
use Rattle.b2_generate.specs.OpenTargets.{conflict}
use Rattle.b2_generate.specs.Stack.{supplied}
use Rattle.b2_generate.specs.Nodes.{entry_in}
use Rattle.b2_generate.specs.Machine.{IsKept, frame_of, standing_of}
use Rattle.b2_generate.specs.declared.node.Node.{Node}
use Rattle.b2_generate.specs.declared.frame.Frame.{Frame}

-- a node was noted among those that were generated for an open main target
pub record Notes (name : Name) (place : ℕ) (old new : Frame) : Type 0 where
  pub same : new ≡ record old { done = old.done ++ place ∷ []; places = new.places }
  pub places : (other : Name) → finite.get new.places other ≡ option_or (finite.get old.places other) (if is_same other name then Some place else None)

-- an open main target took the node at a place
pub record IsTaken (d : Declared) (nodes : List Node) (place : ℕ) (old new : Frame) : Type 0 where
  pub kept : IsKept nodes d new
  pub stands : frame_of nodes new ≡ supplied d (frame_of nodes old) (entry_in nodes place).0 (entry_in nodes place).1
  pub earliest : new.earliest ≡ old.earliest
  pub fits : conflict d (standing_of nodes old) (entry_in nodes place).1 ≡ None
