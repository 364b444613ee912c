-- The open main targets of the code, as those of the definition.
use Rattle.std.specs.Prelude.{◌≡◌, ◌<◌, ℕ, false, List, [], ◌∷◌, ◌++◌, Option, Some, None, map, length, if◌then◌else◌}
use Rattle.std.specs.List.{AllByRecursion}
use Rattle.std.specs.FinMap as finite
use Rattle.b2_declared.specs.declared.whole.Declared.{Declared}
use Rattle.b2_references.specs.Names.{Name, is_same, is_among}
use Rattle.b2_alternatives.specs.Picking.{seen}
use Rattle.b2_alternatives.specs.DependencyWork.{StandAt}
use Rattle.b2_generate.specs.OpenTargets.{Standing, under}
use Rattle.b2_generate.specs.Stack as stacks
use Rattle.b2_generate.specs.Nodes.{entry_in, AreLate}
use Rattle.b2_generate.specs.Tables.{Table}
use Rattle.b2_generate.specs.declared.node.Node.{Node}
use Rattle.b2_generate.specs.declared.frame.Frame.{Frame}

-- the names of open main targets, of which the newest comes first, the oldest name first
abbrev pub names_of : List Frame → List Name
names_of [] = []
names_of (f ∷ below) = names_of below ++ f.name ∷ []

module _ (nodes : List Node) where
  abbrev pub standing_of : Frame → Standing
  standing_of f = record { set = f.needs.set; usage = f.needs.usage; done = map (entry_in nodes) f.done }

  abbrev pub frame_of : Frame → stacks.Frame
  frame_of f = record { name = f.name; asked = f.asked; chosen = seen f.name f.chosen; stands = standing_of f }

  -- the place of the first of some nodes that is of a main target
  abbrev pub place_among : List ℕ → Name → Option ℕ
  place_among [] name = None
  place_among (place ∷ more) name = if is_same name (entry_in nodes place).0 then Some place else place_among more name

  -- the places of some nodes are those of nodes that are there, and are found by the main targets of these
  pub record HasPlaces (done : List ℕ) (places : Table ℕ) : Type 0 where
    pub there : AllByRecursion (λ place. place < length nodes) done
    pub found : (name : Name) → finite.get places name ≡ place_among done name

  -- where an open main target stands is kept rightly
  pub record IsKept (d : Declared) (f : Frame) : Type 0 where
    pub stand : StandAt d f.chosen.target.now (under (standing_of f)) f.needs
    pub places : HasPlaces f.done f.places

  -- so are all of them; no two have one name, and none was generated before the place that is kept with it
  abbrev pub AreKept : Declared → List Frame → Type 0
  AreKept d [] = Unit {0}
  AreKept d (f ∷ below) = (is_among (names_of below) f.name ≡ false) × AreLate nodes f.earliest (names_of (f ∷ below)) × IsKept d f × AreKept d below
