use Rattle.std.specs.Prelude.{◌≡◌, ℕ, ◌+◌, Bool, is_some, List, [], ◌∷◌, map, slice_get, Option, Some, None, unwrap_or, option_and_then, if◌then◌else◌}
use Rattle.std.specs.Borrow.{Bor}
use Rattle.std.specs.Option.{option_map}
use Rattle.std.specs.List.{list_all}
use Rattle.std.specs.Ordering.{nat_cmp}
use Rattle.std.specs.Cmp.Lexicographic.{slice_cmp}
use Rattle.std.specs.FinMap as finite
use Rattle.std.specs.Str.{bytes_eq}
use Rattle.b2_host.specs.Disks.{File, Folder, Past, Disk}
use Rattle.b2_files.specs.declared.file_bytes.FileBytes.{FileBytes}
use Rattle.b2_files.specs.declared.version.Version.{Version}
use Rattle.b2_files.specs.Buffers.{bytes_in, is_within}

-- for each path that a host knows, the place of its file among all that stood, or None where none stands
abbrev pub PlaceMap : Type 0
PlaceMap = finite.FinMap (slice_cmp nat_cmp) (Option ℕ)

abbrev pub place_of : PlaceMap → List ℕ → Option ℕ
place_of places path = unwrap_or (finite.get places path) None

abbrev pub is_known : PlaceMap → List ℕ → Bool
is_known places path = is_some (finite.get places path)

-- the places, once a known path got another one
abbrev pub place_set : PlaceMap → List ℕ → Option ℕ → List ℕ → Option ℕ
place_set places path place other = if bytes_eq path other then (if is_known places path then place else None) else place_of places other

-- the path of each entry is known
abbrev pub all_known : PlaceMap → List FileBytes → Bool
all_known places entries = list_all (λ entry. is_known places entry.path) entries

-- a path with bytes
abbrev pub Write : Type 0
Write = List ℕ × List ℕ

abbrev pub write_path : Write → List ℕ
write_path write = write.0

-- an entry as a write
abbrev pub write_of : FileBytes → Write
write_of entry = (entry.path, entry.bytes.value.items)

-- the same of an entry that is referred to
abbrev pub input_of : Bor FileBytes → Write
input_of entry = write_of entry.now

-- a version as a write
abbrev pub write_in : List (List ℕ) → Version → Write
write_in buffers version = (version.path, bytes_in buffers version.content)

abbrev pub writes_in : List (List ℕ) → List Version → List Write
writes_in buffers past = map (write_in buffers) past

-- the bytes of each version lie within their buffers
abbrev pub all_within : List (List ℕ) → List Version → Bool
all_within buffers past = list_all (λ version. is_within buffers version.content) past

-- the write at a place as a file: its stamp counts from 1
abbrev pub file_of : ℕ → Write → File
file_of place write = record { stamp = place + 1; bytes = write.1 }

abbrev pub file_at : List Write → ℕ → Option File
file_at past place = option_map (file_of place) (slice_get past place)

abbrev pub standing : List Write → PlaceMap → Folder
standing past places path = option_and_then (file_at past) (place_of places path)

-- the writes from a place on, as files that stood
abbrev pub stood : ℕ → List Write → List Past
stood place [] = []
stood place (write ∷ more) = record { path = write.0; file = file_of place write } ∷ stood (place + 1) more

-- what the writes and the places tell
abbrev pub disk_of : List Write → PlaceMap → Disk
disk_of past places = record { now = standing past places; past = stood 0 past }

-- each place that is given for a path has a write of that path
abbrev pub IsPlaced : List Write → PlaceMap → Type 0
IsPlaced past places = (path : List ℕ) (place : ℕ) → place_of places path ≡ Some place → option_map write_path (slice_get past place) ≡ Some path
