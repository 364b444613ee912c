-- Which output roots a call of `project` declares.
use Rattle.std.specs.Prelude.{Bool, false, ◌||◌, not, ◌&&◌, List, [], ◌∷◌, drop, codes, filter, map as each}
use Rattle.std.specs.List.{flat_map, list_any}
use Rattle.std.specs.Str.{bytes_eq}
use Rattle.b2_base.specs.Segments.{normal_of}
use Rattle.b2_base.specs.Lists.{rest_of}
use Rattle.jam_journal.specs.Tables.{Text}
use Rattle.jam_journal.specs.Scopes.{Value}

-- an attribute list whose first text is `output-dirs`
abbrev pub is_output_dirs : Value → Bool
is_output_dirs [] = false
is_output_dirs (name ∷ dirs) = bytes_eq name (codes "output-dirs")

-- the attribute lists are those after the first
abbrev pub names_output_dirs : List Value → Bool
names_output_dirs lists = list_any is_output_dirs (rest_of lists)

-- the directories in all of them, in order
abbrev pub output_dirs : List Value → Value
output_dirs lists = flat_map (drop 1) (filter is_output_dirs (rest_of lists))

-- the folder itself is no output root; the normal form of the empty text is `.` too
abbrev pub is_no_root : Text → Bool
is_no_root dir = bytes_eq (normal_of dir) (codes ".")

-- outside Jamroot, after the roots are frozen, and where one of the directories is no root, such lists are refused
abbrev pub is_refused : Text → Bool → List Value → Bool
is_refused place frozen lists =
    names_output_dirs lists && (not (bytes_eq place (codes ".")) || frozen || list_any is_no_root (output_dirs lists))

abbrev pub root_paths : List Value → Value
root_paths lists = each normal_of (output_dirs lists)
