-- The names of the files directly in a directory, by the paths at which files stand.
use Rattle.std.specs.Prelude.{Bool, true, false, not, ◌&&◌, List, [], ◌∷◌, codes, Option, Some, None, is_some, if◌then◌else◌}
use Rattle.std.specs.Ordering.{nat_cmp}
use Rattle.std.specs.Str.{bytes_eq}
use Rattle.std.specs.declared.cmp.Ordering.{Ordering}
use Rattle.std.specs.declared.cmp.Ordering.TheVariants as orders
use Rattle.std.specs.Cmp.Lexicographic.{slice_cmp}
use Rattle.b2_base.specs.Segments.{is_rooted, is_up}
use Rattle.b2_base.specs.Normal.{parts}
use Rattle.b2_host.specs.Disks.{Folder, Past, Disk}
use Rattle.jam_journal.specs.Tables.{Text}

-- ---- the name of a path in a directory

-- the one text after these texts, if there is one and no more
abbrev pub one_after : List Text → List Text → Option Text
one_after [] [] = None
one_after [] (name ∷ []) = Some name
one_after [] (name ∷ other ∷ more) = None
one_after (first ∷ more) [] = None
one_after (first ∷ more) (text ∷ texts) = if bytes_eq first text then one_after more texts else None

-- in the folder `..` is no name
abbrev pub unless_up : Text → Option Text → Option Text
unless_up dir None = None
unless_up dir (Some name) = if bytes_eq dir (codes ".") && is_up name then None else Some name

abbrev pub are_same : Bool → Bool → Bool
are_same true other = other
are_same false other = not other

-- the name of a path, where it lies directly in the directory
abbrev pub name_in : Text → Text → Option Text
name_in dir path = if are_same (is_rooted path) (is_rooted dir) then unless_up dir (one_after (parts dir) (parts path)) else None

-- ---- the names of some paths

-- a name among others in byte order, each once
abbrev pub put_by : Ordering → Text → Text → List Text → List Text → List Text
put_by orders.Less name first more later = name ∷ first ∷ more
put_by orders.Equal name first more later = first ∷ more
put_by orders.Greater name first more later = first ∷ later

abbrev pub put : Text → List Text → List Text
put name [] = name ∷ []
put name (first ∷ more) = put_by (slice_cmp nat_cmp name first) name first more (put name more)

abbrev pub put_if : Option Text → List Text → List Text
put_if None names = names
put_if (Some name) names = put name names

-- the names directly in a directory, of the paths of these files that stand now
abbrev pub names_of : Folder → Text → List Past → List Text
names_of folder dir [] = []
names_of folder dir (old ∷ past) = put_if (if is_some (folder old.path) then name_in dir old.path else None) (names_of folder dir past)

abbrev pub names_in : Disk → Text → List Text
names_in disk dir = names_of disk.now dir disk.past
