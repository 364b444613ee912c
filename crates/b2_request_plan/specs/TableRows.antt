-- The table of main targets, and a walk through what was generated.
use Rattle.std.specs.Prelude.{◌≡◌, ℕ, ◌==◌, ◌+◌, Bool, true, false, List, [], ◌∷◌, ◌++◌, map, length, reverse, if◌then◌else◌}
use Rattle.std.specs.List.{list_any}
use Rattle.std.specs.Option.{option_map_or}
use Rattle.std.specs.Borrow.{Bor}
use Rattle.std.specs.Ordering.{nat_cmp, ordering_then}
use Rattle.std.specs.Cmp.Lexicographic.{slice_cmp}
use Rattle.std.specs.BTreeSet.{contains}
use Rattle.std.specs.declared.cmp.Ordering.{Ordering}
use Rattle.b2_props.specs.Sets.{Pair}
use Rattle.b2_props.specs.Holding.{pair_cmp}
use Rattle.b2_generate.specs.Answers.{Row}
use Rattle.b2_generate.specs.Nodes.{node_in, row_of}
use Rattle.b2_generate.specs.Places.{children_at, children_left}
use Rattle.b2_generate.specs.Planning.{Line, is_same_row}
use Rattle.b2_generate.specs.declared.node.Node.{Node}
use Rattle.b2_request_plan.specs.declared.planned.Built.{Built}
use Rattle.b2_request_plan.specs.declared.table.RowSearch.{RowSearch}

abbrev pub line_of : Built → Line
line_of b = record { target = b.target; alternative = b.alternative; set = b.set }

abbrev pub lines_of : List Built → List Line
lines_of table = map line_of table

-- ---- rows

abbrev pub row_of_line : Built → Row
row_of_line b = record { name = b.name; alternative = b.alternative; set = b.set }

-- the rows of the lines of a table, in order
abbrev pub rows_of : List Built → List Row
rows_of table = map row_of_line table

-- whether a row is among some rows
abbrev pub has_row : List Row → Row → Bool
has_row rows row = list_any (is_same_row row) rows

-- rows with one more, unless it is among them
abbrev pub with_row : List Row → Row → List Row
with_row rows row = if has_row rows row then rows else rows ++ row ∷ []

-- ---- a walk

abbrev pub Key : Type 0
Key = ℕ × Bor (List ℕ) × ℕ × Bor (List Pair)

abbrev pub row_of_key : Key → Row
row_of_key k = record { name = (k.0, k.1.now); alternative = k.2; set = k.3.now }

-- the order of keys
abbrev pub key_cmp : Key → Key → Ordering
key_cmp x y = ordering_then (ordering_then (ordering_then (nat_cmp x.0 y.0) (slice_cmp nat_cmp x.1.now y.1.now)) (nat_cmp x.2 y.2)) (slice_cmp pair_cmp x.3.now y.3.now)

-- the rows that were found
abbrev pub found_rows : RowSearch → List Row
found_rows walk = map (λ n. row_of n.now) walk.found.items

-- they are those that are looked up
pub record IsWalk (walk : RowSearch) : Type 0 where
  pub known : (key : Key) → contains key_cmp walk.known key ≡ has_row (found_rows walk) (row_of_key key)

abbrev pub is_opened : RowSearch → ℕ → Bool
is_opened walk place = contains nat_cmp walk.opened place

-- a walk that is to begin with some places
pub record IsBegun (asked : List ℕ) (walk : RowSearch) : Type 0 where
  pub known : IsWalk walk
  pub found : found_rows walk ≡ []
  pub opened : (place : ℕ) → is_opened walk place ≡ false
  pub next : walk.next.items ≡ reverse asked

-- a place is opened, unless it was opened before
pub record Opens (nodes : List Node) (place : ℕ) (old new : RowSearch) : Type 0 where
  pub opened : (other : ℕ) → is_opened new other ≡ (if place == other then true else is_opened old other)
  pub found : found_rows new ≡ (if is_opened old place then found_rows old else option_map_or (λ n. with_row (found_rows old) (row_of n)) (node_in nodes place) (found_rows old))
  pub next : new.next.items ≡ (if is_opened old place then old.next.items else old.next.items ++ reverse (children_at nodes place))

-- how many places are to be opened at most
abbrev pub turns_left : List Node → RowSearch → ℕ
turns_left nodes walk = length walk.next.items + children_left (is_opened walk) nodes
