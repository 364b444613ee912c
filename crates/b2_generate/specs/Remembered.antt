-- What is known of the nodes of a generation, where the project's own text is told.
use Rattle.std.specs.Prelude.{◌≡◌, ℕ, List, [], ◌∷◌, Some, Ok}
use Rattle.b2_references.specs.Names.{Name}
use Rattle.b2_props.specs.Sets.{Pair}
use Rattle.b2_plan.specs.declared.step.Step.{Step}
use Rattle.b2_generate.specs.LoadedProjects.{LoadedProject}
use Rattle.b2_generate.specs.Generation.{Generates}
use Rattle.b2_making.specs.Laws.{StandIn}
use Rattle.b2_generate.specs.Nodes.{given_by, node_in}
use Rattle.b2_generate.specs.declared.node.Node.{Node}

-- the node at a place is of a main target, and was asked for with a set
pub record IsAskedAt (nodes : List Node) (place : ℕ) (name : Name) (set : List Pair) : Type 0 where
  pub node : Node
  pub there : node_in nodes place ≡ Some node
  pub named : node.name ≡ name
  pub asked : node.asked ≡ set

module _ {E : Type 0} (l : LoadedProject E) where
  -- what a node gives was generated, and its steps stand among these
  pub record IsMade (older : List Node) (n : Node) (steps : List Step) : Type 0 where
    pub above : List Name
    pub before : List Step
    pub after : List Step
    pub generates : Generates l above n.name n.asked before (Ok (given_by older n, after))
    pub stand : StandIn steps after

  abbrev pub AreMade : List Node → List Step → Type 0
  AreMade [] steps = Unit {0}
  AreMade (n ∷ older) steps = IsMade older n steps × AreMade older steps
