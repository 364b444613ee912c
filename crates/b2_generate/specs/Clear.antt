-- When none of the main targets that were opened for a node is open.
use Rattle.std.specs.Prelude.{◌≡◌, ◌<◌, ℕ, Bool, true, false, List, length, slice_index_or}
use Rattle.std.specs.List.{AllByRecursion}
use Rattle.b2_references.specs.Names.{Name}
use Rattle.b2_generate.specs.Laws.{AreClosed}
use Rattle.b2_generate.specs.Nodes.{entry_in}
use Rattle.b2_generate.specs.declared.node.Node.{Node}

-- none of the main targets that were opened for the node at a place is among these
abbrev pub IsClear : List Name → List Node → ℕ → Type 0
IsClear names nodes place = AreClosed names (entry_in nodes place).1.rows

-- ---- a pass over marks, one for each place

abbrev pub is_marked : List Bool → ℕ → Bool
is_marked marks place = slice_index_or marks place false

-- as many places are marked or not, and those that were marked are
pub record MarksStay (old new : List Bool) : Type 0 where
  pub size : length new ≡ length old
  pub stay : (place : ℕ) → is_marked old place ≡ true → is_marked new place ≡ true

-- so are these
pub record AreMarked (places : List ℕ) (old new : List Bool) : Type 0 where
  pub stay : MarksStay old new
  pub marked : AllByRecursion (λ place. place < length old → is_marked new place ≡ true) places

-- the marked nodes before a place are clear
abbrev pub AreClearBefore : List Name → List Node → ℕ → List Bool → Type 0
AreClearBefore names nodes bound marks = (place : ℕ) → place < bound → is_marked marks place ≡ true → IsClear names nodes place

-- the node at a place, where it is marked, is clear if the marked ones before it are
pub record Passes (names : List Name) (nodes : List Node) (place : ℕ) (old new : List Bool) : Type 0 where
  pub stay : MarksStay old new
  pub clears : is_marked old place ≡ true → AreClearBefore names nodes place new → IsClear names nodes place
