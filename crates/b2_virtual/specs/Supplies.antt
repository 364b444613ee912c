-- What files and main targets supply to those that need them.
use Rattle.std.specs.Prelude.{ℕ, Bool, false, not, ◌||◌, ◌&&◌, List, [], ◌∷◌, ◌++◌, filter, map, codes}
use Rattle.std.specs.List.{flat_map}
use Rattle.std.specs.Str.{bytes_eq}
use Rattle.b2_base.specs.Segments.{normal_of}
use Rattle.b2_props.specs.Sets.{Pair}
use Rattle.b2_generators.specs.Table.{FileType, type_of}
use Rattle.b2_virtual.specs.Paths.{source_tail, folder_of}
use Rattle.b2_virtual.specs.declared.entry.Entry.{Entry}
use Rattle.b2_virtual.specs.declared.entry.Supply.{Supply}

-- a file that no step of the target's needs makes
abbrev pub file_entry : List FileType → List ℕ → Entry
file_entry types path = record { path = path; file_type = type_of types path; tail = source_tail path; is_made = false }

abbrev pub is_of : List ℕ → Entry → Bool
is_of type e = bytes_eq type e.file_type

abbrev pub is_header : Entry → Bool
is_header e = is_of (codes "H") e

abbrev pub is_library : Entry → Bool
is_library e = is_of (codes "STATIC_LIB") e || is_of (codes "SHARED_LIB") e

-- the entries in order, each path at its first place alone
abbrev pub without_repeats : List Entry → List Entry
without_repeats [] = []
without_repeats (e ∷ more) = e ∷ filter (λ other. not (bytes_eq e.path other.path)) (without_repeats more)

abbrev pub entries_of : List Supply → List Entry
entries_of supplies = flat_map (λ s. s.entries) supplies

abbrev pub carried_of : List Supply → List Entry
carried_of supplies = without_repeats (flat_map (λ s. s.carried) supplies)

-- the libraries: of each that supplies its entries of library type, then those that it carries on
abbrev pub libraries_of : List Supply → List Entry
libraries_of supplies = without_repeats (flat_map (λ s. filter is_library s.entries ++ s.carried) supplies)

-- the directory of a path
abbrev pub directory_of : List ℕ → List ℕ
directory_of path = normal_of (folder_of path)

-- the directories of the headers that steps make, as properties
abbrev pub header_directories : List Entry → List Pair
header_directories entries = map (λ e. (codes "include", directory_of e.path)) (filter (λ e. e.is_made && is_header e) entries)
