-- The rows and the children of what was generated, by place.
use Rattle.std.specs.Prelude.{ℕ, ◌+◌, Bool, List, [], ◌∷◌, filter, length, nat_lt, if◌then◌else◌}
use Rattle.std.specs.Option.{option_map_or}
use Rattle.b2_generate.specs.Answers.{Row}
use Rattle.b2_generate.specs.Nodes.{entry_in, node_in}
use Rattle.b2_generate.specs.declared.node.Node.{Node}

-- the rows of the node at a place
abbrev pub rows_at : List Node → ℕ → List Row
rows_at nodes place = (entry_in nodes place).1.rows

abbrev pub is_before : ℕ → ℕ → Bool
is_before bound place = nat_lt place bound

-- what is to be opened for the node at a place
abbrev pub children_at : List Node → ℕ → List ℕ
children_at nodes place = option_map_or (λ n. filter (is_before place) n.children) (node_in nodes place) []

-- how many children the nodes have that were not opened
abbrev pub children_left : (ℕ → Bool) → List Node → ℕ
children_left is_opened [] = 0
children_left is_opened (n ∷ older) = (if is_opened (length older) then 0 else length n.children) + children_left is_opened older
