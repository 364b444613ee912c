-- A table of lists and what stood in it at marks, by what changed since.
use Rattle.std.specs.Prelude.{List, [], ◌∷◌, ◌++◌, Option, Some, None, length, take}
use Rattle.std.specs.Option.{option_map, unwrap_or}
use Rattle.std.specs.FinMap as map
use Rattle.jam_journal.specs.declared.past_lists.Before.{Before}
use Rattle.jam_journal.specs.declared.past_lists.Before.TheVariants.{Other, First}
use Rattle.jam_journal.specs.declared.past_lists.ListChange.{ListChange}
use Rattle.jam_journal.specs.Tables.{Key, Table, put_back}
use Rattle.jam_journal.specs.Scopes.{Value}

-- a list, or the empty one where there is none
abbrev pub list_of : Option Value → Value
list_of list = unwrap_or list []

-- a table with more texts in the list of a key
abbrev pub lengthened : Table Value → Key → Value → Table Value
lengthened table key texts = map.insert table key (list_of (map.get table key) ++ texts)

-- what stood at a key before a change, by what stands there now: another list or none, or the first so many of its texts
abbrev pub before_of : Before → Option Value → Option Value
before_of (Other before) now = before
before_of (First count) now = option_map (take count) now

-- what is noted where texts are added to what stands there
abbrev pub before_more : Option Value → Before
before_more None = Other None
before_more (Some value) = First (length value)

abbrev pub changed_at : Key → Before → ListChange
changed_at key before = record { first = key.0; second = key.1; before = before }

-- what is noted of a key that gets another list, and of one whose list gets more texts
abbrev pub other_noted : Table Value → Key → ListChange
other_noted table key = changed_at key (Other (map.get table key))

abbrev pub more_noted : Table Value → Key → ListChange
more_noted table key = changed_at key (before_more (map.get table key))

-- a change is taken back
abbrev pub back_by : ListChange → Table Value → Table Value
back_by change table = put_back table (change.first, change.second) (before_of change.before (map.get table (change.first, change.second)))

-- changes are taken back, the newest first
abbrev pub undone : List ListChange → Table Value → Table Value
undone [] table = table
undone (change ∷ changes) table = undone changes (back_by change table)

-- the tables at the marks, by what changed since the newest, and before it since each older one
abbrev pub tables_by : Table Value → List ListChange → List (List ListChange) → List (Table Value)
tables_by table changes [] = []
tables_by table changes (older ∷ more) = undone changes table ∷ tables_by (undone changes table) older more
