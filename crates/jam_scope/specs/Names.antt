-- Lists of names.
use Rattle.std.specs.Prelude.{Bool, nat_lt, List}
use Rattle.std.specs.List.{list_all, filter}
use Rattle.std.specs.FinMap as map
use Rattle.jam_journal.specs.Tables.{Text, Table, row_of}

-- no byte is zero
abbrev pub is_text : Text → Bool
is_text = list_all (λ byte. nat_lt 0 byte)

-- the names under which something stands in a module, or of a target, in byte order; a name with a zero byte is no text, and
-- is left out
abbrev pub names_in : {X : Type 0} → Table X → Text → List Text
names_in table owner = filter is_text (map.keys (row_of table owner))
