-- What is known of files, by their numbers.
use Rattle.std.specs.Prelude.{◌≡◌, ◌↔◌, ℕ, ◌<◌, true, List, [], ◌∷◌, ◌++◌, length, Option, Some, None, slice_get, slice_set, IsTrue}
use Rattle.std.specs.List.{Contains}
use Rattle.std.specs.FinMap as map
use Rattle.std.specs.Coded.{Coded, coded×, coded_ℕ, coded_list}
use Rattle.b2_paths.specs.PathTables.{AreDistinct}
use Rattle.b2_paths.specs.PairMaps.{pair_cmp}
use Rattle.b2_plan.specs.declared.step.Step.{Step}
use Rattle.b2_plan.specs.Plans.{maker_of}
use Rattle.b2_plan.specs.Sources.{Include, IsInRoots}
use Rattle.b2_log.specs.Good.{IsDigest}
use Rattle.jam_scan.specs.Scans.{is_scanned}
use Rattle.b2_facts.specs.declared.file_facts.FileLook.TheVariants as seen
use Rattle.b2_facts.specs.declared.file_facts.FileFacts.{FileFacts}

-- numbers of files for pairs of numbers
abbrev pub Founds : Type 0
Founds = map.FinMap pair_cmp (List ℕ)

-- a finite map is stored as one from pairs to lists
abbrev pub founds_code : Coded Founds
founds_code = map.code (coded× coded_ℕ coded_ℕ) (coded_list coded_ℕ)

-- All that is known: the path of each number and the facts of the file there, the directories of each numbered list, and for
-- some lists and files the numbers of the files that are found for the includes.
pub record Knowledge : Type 0 where
  pub paths : List (List ℕ)
  pub files : List FileFacts
  pub lists : List (List (List ℕ))
  pub found : Founds

-- nothing is known
abbrev pub no_facts : Knowledge
no_facts = record { paths = []; files = []; lists = []; found = map.from_entries [] }

-- one more path, with the facts of the file there
abbrev pub with_path : Knowledge → List ℕ → FileFacts → Knowledge
with_path f path file = record { paths = f.paths ++ path ∷ []; files = f.files ++ file ∷ []; lists = f.lists; found = f.found }

-- other facts of the file with a number
abbrev pub with_file : Knowledge → ℕ → FileFacts → Knowledge
with_file f n file = record { paths = f.paths; files = slice_set f.files n file; lists = f.lists; found = f.found }

-- one more list of directories
abbrev pub with_list : Knowledge → List (List ℕ) → Knowledge
with_list f dirs = record { paths = f.paths; files = f.files; lists = f.lists ++ dirs ∷ []; found = f.found }

-- what the includes of a file are found at, in the directories of a list
abbrev pub with_found : Knowledge → ℕ → ℕ → List ℕ → Knowledge
with_found f list n targets = record { paths = f.paths; files = f.files; lists = f.lists; found = map.insert f.found (list, n) targets }

-- ---- what is known of a number

-- a number that stands for a path, and for the facts of the file there
abbrev pub IsNumber : Knowledge → ℕ → Type 0
IsNumber f n = (n < length f.paths) × (n < length f.files)

-- a number that stands for a list of directories
abbrev pub IsList : Knowledge → ℕ → Type 0
IsList f list = list < length f.lists

-- the path that a number stands for
abbrev pub path_at : Knowledge → ℕ → Option (List ℕ)
path_at f n = slice_get f.paths n

-- what is known of the file with a number
abbrev pub file_at : Knowledge → ℕ → Option FileFacts
file_at f n = slice_get f.files n

-- the directories of a numbered list of directories
abbrev pub dirs_at : Knowledge → ℕ → Option (List (List ℕ))
dirs_at f list = slice_get f.lists list

-- the numbers of the files that a file includes, looked for in the directories of a list
abbrev pub found_at : Knowledge → ℕ → ℕ → Option (List ℕ)
found_at f list n = map.get f.found (list, n)

-- this number stands for this path, and so much is known of the file there
pub record IsFile (f : Knowledge) (n : ℕ) (path : List ℕ) (file : FileFacts) : Type 0 where
  pub path_is : path_at f n ≡ Some path
  pub file_is : file_at f n ≡ Some file

-- what a file includes is known
abbrev pub IsRead : FileFacts → Type 0
IsRead file = (includes : List Include) × (file.includes ≡ Some includes)

-- what the file with a number includes is known
abbrev pub WasRead : Knowledge → ℕ → Type 0
WasRead f number = (file : FileFacts) × (file_at f number ≡ Some file) × IsRead file

-- nothing was seen of the file, and nothing of it was read
pub record IsBlank (file : FileFacts) : Type 0 where
  pub unseen : file.seen ≡ seen.Unasked
  pub unread : file.includes ≡ None
  pub undigested : file.digest ≡ None

-- ---- what the facts are about

-- What the plan tells of the file at a path: its maker, whether it lies under an output root, and whether it is scanned. What
-- it includes is known of a scanned file alone, and a digest that is known is one.
pub record IsPlanned (steps : List Step) (roots : List (List ℕ)) (path : List ℕ) (file : FileFacts) : Type 0 where
  pub maker : file.maker ≡ maker_of steps path
  pub rooted : IsTrue file.rooted ↔ IsInRoots roots path
  pub scanned : file.scanned ≡ is_scanned path
  pub read : (includes : List Include) → file.includes ≡ Some includes → file.scanned ≡ true
  pub digested : (digest : List ℕ) → file.digest ≡ Some digest → IsDigest digest

-- Where a file's includes were looked for in the directories of a list, both have numbers, as has each file that was found, and
-- what the file includes is known.
pub record IsLookedFor (f : Knowledge) (list n : ℕ) (targets : List ℕ) : Type 0 where
  pub listed : IsList f list
  pub numbered : IsNumber f n
  pub each : (target : ℕ) → Contains targets target → IsNumber f target
  pub read : (file : FileFacts) → file_at f n ≡ Some file → IsRead file

-- The facts are about the files of a plan: each number stands for one path, and all numbers that are kept are numbers.
pub record IsAbout (steps : List Step) (roots : List (List ℕ)) (f : Knowledge) : Type 0 where
  pub sizes : length f.files ≡ length f.paths
  pub distinct : AreDistinct f.paths
  pub planned : (n : ℕ) (path : List ℕ) (file : FileFacts) → IsFile f n path file → IsPlanned steps roots path file
  pub found : (list n : ℕ) (targets : List ℕ) → found_at f list n ≡ Some targets → IsLookedFor f list n targets
