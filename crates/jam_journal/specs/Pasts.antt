-- A table and what stood in it at marks, by what was replaced since.
use Rattle.std.specs.Prelude.{List, [], ◌∷◌, Option}
use Rattle.std.specs.FinMap as map
use Rattle.jam_journal.specs.declared.past.Replacement.{Replacement}
use Rattle.jam_journal.specs.Tables.{Key, Table, put_back}

abbrev pub replaced : {X : Type 0} → Key → Option X → Replacement X
replaced key value = record { first = key.0; second = key.1; before = value }

-- what is noted of a key that gets another value
abbrev pub noted_at : {X : Type 0} → Table X → Key → Replacement X
noted_at table key = replaced key (map.get table key)

-- changes are taken back, the newest first
abbrev pub undone : {X : Type 0} → List (Replacement X) → Table X → Table X
undone [] table = table
undone (change ∷ changes) table = undone changes (put_back table (change.first, change.second) change.before)

-- the tables at the marks, by what was replaced since the newest, and before it since each older one
abbrev pub tables_by : {X : Type 0} → Table X → List (Replacement X) → List (List (Replacement X)) → List (Table X)
tables_by table changes [] = []
tables_by table changes (older ∷ more) = undone changes table ∷ tables_by (undone changes table) older more
