-- What the nodes of a generation stand for. The newest stands first; the place of a node is the number of older ones.
use Rattle.std.specs.Prelude.{◌≡◌, ◌≤◌, ℕ, ◌==◌, List, [], ◌∷◌, ◌++◌, Option, Some, None, length, if◌then◌else◌}
use Rattle.std.specs.List.{AllByRecursion, flat_map}
use Rattle.std.specs.Option.{option_or, option_map_or}
use Rattle.b2_references.specs.Names.{Name, is_same}
use Rattle.b2_generate.specs.Answers.{Row, Generated}
use Rattle.b2_generate.specs.declared.node.Node.{Node}

abbrev pub row_of : Node → Row
row_of n = record { name = n.name; alternative = n.number; set = n.set }

-- what a node gives, where these are the rows of what was opened for it
abbrev pub gives : Node → List Row → Generated
gives n others = record { supply = n.supply; usage = n.usage; rows = row_of n ∷ others }

-- what stands for a node that is not there
abbrev pub no_entry : Name × Generated
no_entry = ((0, []), record { supply = record { entries = []; carried = [] }; usage = []; rows = [] })

-- the main target of the node at a place, with what it gave
abbrev pub entry_in : List Node → ℕ → Name × Generated
entry_in [] place = no_entry
entry_in (n ∷ older) place =
    if place == length older then (n.name, gives n (flat_map (λ child. (entry_in older child).1.rows) n.children)) else entry_in older place

-- what a node gives over older ones
abbrev pub given_by : List Node → Node → Generated
given_by older n = gives n (flat_map (λ child. (entry_in older child).1.rows) n.children)

-- the node at a place
abbrev pub node_in : List Node → ℕ → Option Node
node_in [] place = None
node_in (n ∷ older) place = if place == length older then Some n else node_in older place

-- the latest first place of the node at a place
abbrev pub latest_in : List Node → ℕ → ℕ
latest_in nodes place = option_map_or (λ n. n.latest) (node_in nodes place) 0

-- further nodes came after these
pub record AreAdded (old new : List Node) : Type 0 where
  pub newer : List Node
  pub joined : new ≡ newer ++ old

-- ---- when main targets were generated first

-- the place of the first node of a main target
abbrev pub first_in : List Node → Name → Option ℕ
first_in [] name = None
first_in (n ∷ older) name = option_or (first_in older name) (if is_same name n.name then Some (length older) else None)

-- the main target of a row was generated first at a place, or before it
pub record IsEarly (nodes : List Node) (latest : ℕ) (row : Row) : Type 0 where
  pub place : ℕ
  pub first : first_in nodes row.name ≡ Some place
  pub early : place ≤ latest

abbrev pub AreEarly : List Node → ℕ → List Row → Type 0
AreEarly nodes latest rows = AllByRecursion (IsEarly nodes latest) rows

-- for each node, the main targets of all its rows were generated first at its last place, or before it
abbrev pub AreDated : List Node → Type 0
AreDated [] = Unit {0}
AreDated (n ∷ older) = AreEarly (n ∷ older) n.latest (given_by older n).rows × AreDated older

-- a main target was not generated before a place
abbrev pub IsFrom : ℕ → Option ℕ → Type 0
IsFrom first None = Unit {0}
IsFrom first (Some place) = first ≤ place

abbrev pub AreLate : List Node → ℕ → List Name → Type 0
AreLate nodes first names = AllByRecursion (λ name. IsFrom first (first_in nodes name)) names
