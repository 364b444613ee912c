use Rattle.std.specs.Prelude.{◌≡◌, ◌⊎◌, ℕ, List, [], ◌∷◌, ◌++◌, false, codes, Some, if◌then◌else◌}
use Rattle.std.specs.List.{Contains}
use Rattle.std.specs.List.Sorted.{IsStrictlySortedBy}
use Rattle.std.specs.Ordering.{nat_cmp}
use Rattle.std.specs.declared.cmp.Ordering.TheVariants as orders
use Rattle.std.specs.Cmp.Lexicographic.{slice_cmp}
use Rattle.std.specs.Str.{bytes_eq}
use Rattle.b2_base.specs.Segments.{is_rooted, is_up}
use Rattle.b2_base.specs.Normal.{parts}
use Rattle.b2_host.specs.Disks.{File, Folder}

-- The path is that of an entry with this name directly in the directory. No entry of `.` has the name `..`.
pub record IsNameIn (path dir name : List ℕ) : Type 0 where
  pub rooted : is_rooted path ≡ is_rooted dir
  pub goes_on : parts path ≡ parts dir ++ name ∷ []
  pub not_above : dir ≡ codes "." → is_up name ≡ false

-- what stands before the names of a directory's entries in their paths
abbrev pub lead_in : List ℕ → List ℕ
lead_in dir = if bytes_eq dir (codes ".") then [] else (if bytes_eq dir (codes "/") then codes "/" else dir ++ codes "/")

-- A file stands at the path, directly in the directory, and its name was added; or none does, and nothing was added.
abbrev pub AddsName : Folder → List ℕ → List ℕ → List (List ℕ) → List (List ℕ) → Type 0
AddsName folder dir path old new =
    ((name : List ℕ) × (file : File) × (folder path ≡ Some file) × IsNameIn path dir name × (path ≡ lead_in dir ++ name) × (new ≡ old ++ name ∷ []))
    ⊎ ((new ≡ old) × ((name : List ℕ) (file : File) → folder path ≡ Some file → IsNameIn path dir name → ⊥))

-- The names that the files at some of the paths have directly in the directory, in byte order. The other paths are above.
pub record Gathered (folder : Folder) (dir : List ℕ) (done rest names : List (List ℕ)) : Type 0 where
  pub sound : (name : List ℕ) → Contains names name → (file : File) × (folder (lead_in dir ++ name) ≡ Some file) × IsNameIn (lead_in dir ++ name) dir name
  pub complete : (path name : List ℕ) (file : File) → Contains done path → folder path ≡ Some file → IsNameIn path dir name → Contains names name
  pub rising : IsStrictlySortedBy (slice_cmp nat_cmp) names
  pub below : (name path : List ℕ) → Contains names name → Contains rest path → slice_cmp nat_cmp (lead_in dir ++ name) path ≡ orders.Less
