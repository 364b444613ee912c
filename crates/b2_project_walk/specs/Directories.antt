-- The directories of projects: the way to each from the folder, its project file, its module and its parent.
use Rattle.std.specs.Prelude.{◌≡◌, ◌<◌, ℕ, suc, Bool, List, [], ◌∷◌, ◌++◌, codes, map as each, Option, Some, None, is_some, slice_get, if◌then◌else◌}
use Rattle.std.specs.Option.{option_or, option_map}
use Rattle.std.specs.List.{join_with_byte}
use Rattle.std.specs.Str.{bytes_eq}
use Rattle.b2_base.specs.Segments.{here, segments, normal_of, path_from}
use Rattle.b2_base.specs.Below.{is_below}
use Rattle.b2_declared.specs.declared.visit.Visit.{Visit}
use Rattle.jam_journal.specs.Tables.{Text}
use Rattle.jam_scope.specs.Worlds.{World}
use Rattle.jam_meaning.specs.Settings.{Reading, is_missing}
use Rattle.jam_meaning.specs.Includes.{is_in_roots}

-- ---- the way to a directory

-- the beginnings of a list, the shortest first; the empty one is left out
abbrev pub beginnings : List Text → List (List Text)
beginnings [] = []
beginnings (first ∷ more) = (first ∷ []) ∷ each (λ rest. first ∷ rest) (beginnings more)

-- segments as a path
abbrev pub path_of : List Text → Text
path_of found = normal_of (join_with_byte 47 found)

-- The way to a directory below the folder: the directories above it, from the top down, and itself as the last. The folder is not on
-- it, and no way leads to a directory that is not below the folder.
abbrev pub way_to : Text → List Text
way_to dir = if is_below dir here then each path_of (beginnings (segments dir)) else []

-- ---- the file of a project

-- the names that a project file may have; in the folder it is Jamroot
abbrev pub file_names : Text → List Text
file_names dir = if bytes_eq dir here then codes "Jamroot" ∷ codes "Jamroot.jam" ∷ [] else codes "Jamfile" ∷ codes "Jamfile.jam" ∷ []

abbrev pub project_files : Text → List Text
project_files dir = each (path_from dir) (file_names dir)

-- a file below an output root counts as missing
abbrev pub seen : World → (Text → Reading) → Text → Reading
seen w reading path = if is_in_roots w path then is_missing else reading path

-- the first of some files that is not missing, and how it reads; where all are missing, that
abbrev pub or_next : Text → Reading → Text × Reading → Text × Reading
or_next path is_missing next = next
or_next path reading next = (path, reading)

abbrev pub first_file : (Text → Reading) → List Text → Text × Reading
first_file reading [] = ([], is_missing)
first_file reading (path ∷ paths) = or_next path (reading path) (first_file reading paths)

-- the module in which a project's file runs
abbrev pub module_name : Text → Text
module_name dir = codes "Jamfile<" ++ dir ++ codes ">"

-- ---- projects that were visited

-- the place of a directory among the projects, counted from a number on
abbrev pub place_after : ℕ → Text → List Visit → Option ℕ
place_after count dir [] = None
place_after count dir (visit ∷ visits) = if bytes_eq dir visit.dir then Some count else place_after (suc count) dir visits

abbrev pub place_of : Text → List Visit → Option ℕ
place_of dir visits = place_after 0 dir visits

abbrev pub is_visited : Text → List Visit → Bool
is_visited dir visits = is_some (place_of dir visits)

-- the first of some directories that was not visited
abbrev pub first_new : List Visit → List Text → Option Text
first_new visits [] = None
first_new visits (dir ∷ dirs) = if is_visited dir visits then first_new visits dirs else Some dir

-- the last of some directories that was visited
abbrev pub last_visited : List Visit → List Text → Option ℕ
last_visited visits [] = None
last_visited visits (dir ∷ dirs) = option_or (last_visited visits dirs) (place_of dir visits)

-- the parent of a project that was not visited yet: the nearest one above it
abbrev pub parent_of : Text → List Visit → Option ℕ
parent_of dir visits = last_visited visits (here ∷ way_to dir)

-- a project with its file, after those that were visited
abbrev pub visit_of : Text → Text → List Visit → Visit
visit_of dir file visits = record { dir = dir; file = file; «module» = module_name dir; parent = parent_of dir visits }

-- the module of a project's parent
abbrev pub module_at : List Visit → Option ℕ → Option Text
module_at visits None = None
module_at visits (Some place) = option_map (λ visit. visit.«module») (slice_get visits place)

abbrev pub module_above : Visit → List Visit → Option Text
module_above visit visits = module_at visits visit.parent

-- a place stands before this one, if there is one
abbrev pub IsBefore : ℕ → Option ℕ → Type 0
IsBefore place None = Unit {0}
IsBefore place (Some parent) = parent < place

-- the parent of each project stands before it
abbrev pub HaveParentsBefore : List Visit → Type 0
HaveParentsBefore visits = (place : ℕ) (visit : Visit) → slice_get visits place ≡ Some visit → IsBefore place visit.parent
