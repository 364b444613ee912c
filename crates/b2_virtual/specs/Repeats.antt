-- Entries of which none has the path of another, one after another.
use Rattle.std.specs.Prelude.{◌≡◌, ℕ, Bool, List, ◌∷◌, [], ◌++◌, is_some, if◌then◌else◌}
use Rattle.std.specs.List.{list_any}
use Rattle.std.specs.Str.{bytes_eq}
use Rattle.std.specs.Ordering.{nat_cmp}
use Rattle.std.specs.Cmp.Lexicographic.{slice_cmp}
use Rattle.std.specs.FinMap as map
use Rattle.b2_virtual.specs.declared.entry.Entry.{Entry}

abbrev pub has_path : List Entry → List ℕ → Bool
has_path entries path = list_any (λ e. bytes_eq path e.path) entries

-- an entry after others, unless its path is there
abbrev pub with_entry : List Entry → Entry → List Entry
with_entry entries e = if has_path entries e.path then entries else entries ++ e ∷ []

-- a map has the paths of entries, and no other ones
pub record HasPaths (entries : List Entry) (paths : map.FinMap (slice_cmp nat_cmp) (Unit {0})) : Type 0 where
  pub paths_are : (path : List ℕ) → is_some (map.get paths path) ≡ has_path entries path
