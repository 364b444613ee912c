-- Finite maps from texts, and from pairs of texts.
use Rattle.std.specs.Prelude.{String, string_bytes, ℕ, not, List, [], ◌∷◌, ◌++◌, map as each, Option, Some, None, is_some, if◌then◌else◌}
use Rattle.std.specs.Borrow.{Bor}
use Rattle.std.specs.Global.{Global}
use Rattle.std.specs.List.{filter}
use Rattle.std.specs.Str.{bytes_eq}
use Rattle.std.specs.Ordering.{nat_cmp, ordering_then}
use Rattle.std.specs.Cmp.Lexicographic.{slice_cmp}
use Rattle.std.specs.FinMap as map
use Rattle.std.specs.declared.cmp.Ordering.{Ordering}

-- a text is its bytes
abbrev pub Text : Type 0
Text = List ℕ

-- a name within something that has a name: a module or a target
abbrev pub Key : Type 0
Key = Text × Text

-- keys are ordered by their first texts, and where these are equal by the second ones
abbrev pub key_cmp : Key → Key → Ordering
key_cmp a b = ordering_then (slice_cmp nat_cmp a.0 b.0) (slice_cmp nat_cmp a.1 b.1)

abbrev pub Names : Type 0 → Type 0
Names X = map.FinMap (slice_cmp nat_cmp) X

abbrev pub Table : Type 0 → Type 0
Table X = map.FinMap key_cmp X

-- a value at a text, or none there
abbrev pub put_name : {X : Type 0} → Names X → Text → Option X → Names X
put_name names name None = map.remove names name
put_name names name (Some value) = map.insert names name value

-- the same at a text that has a value; else nothing changes
abbrev pub back_name : {X : Type 0} → Names X → Text → Option X → Names X
back_name names name value = if is_some (map.get names name) then put_name names name value else names

-- a value at a key, or none there
abbrev pub put : {X : Type 0} → Table X → Key → Option X → Table X
put table key None = map.remove table key
put table key (Some value) = map.insert table key value

-- the same at a key that has a value; else nothing changes
abbrev pub put_back : {X : Type 0} → Table X → Key → Option X → Table X
put_back table key value = if is_some (map.get table key) then put table key value else table

-- what entries show that are lent, and their texts
abbrev pub lent_row : {X : Type 0} → List (Bor (String Global) × Bor X) → List (Text × X)
lent_row row = each (λ entry. (string_bytes entry.0.now, entry.1.now)) row

abbrev pub lent_names : {X : Type 0} → List (Bor (String Global) × Bor X) → List Text
lent_names row = each (λ entry. string_bytes entry.0.now) row

-- the map that entries stand for, whose keys are these texts
abbrev pub names_of : {K X : Type 0} → (K → Text) → List (K × X) → Names X
names_of text entries = map.from_entries (each (λ entry. (text entry.0, entry.1)) entries)

-- a table in which the keys with this first text are those of a row
abbrev pub with_row : {X : Type 0} → Text → Names X → Table X → Table X
with_row first row table =
    map.from_entries (each (λ entry. ((first, entry.0), entry.1)) (map.entries row)
    ++ map.entries (map.retain_keys table (λ key. not (bytes_eq key.0 first))))

-- the table that rows stand for, whose first texts are these
abbrev pub table_of : {K X : Type 0} → (K → Text) → List (K × Names X) → Table X
table_of text [] = map.empty
table_of text (row ∷ rows) = with_row (text row.0) row.1 (table_of text rows)

-- what stands under a first text, by the second ones
abbrev pub row_of : {X : Type 0} → Table X → Text → Names X
row_of table first = map.from_entries (each (λ entry. (entry.0.1, entry.1)) (filter (λ entry. bytes_eq entry.0.0 first) (map.entries table)))
