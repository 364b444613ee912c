use Rattle.std.specs.Prelude.{◌≡◌, ◌↔◌, ℕ, ◌<◌, List, [], ◌∷◌, ◌++◌, false, codes, length, Some, slice_index_or}
use Rattle.std.specs.List.{Contains}
use Rattle.std.specs.Ordering.{nat_cmp}
use Rattle.std.specs.declared.cmp.Ordering.TheVariants as orders
use Rattle.std.specs.Cmp.Lexicographic.{slice_cmp}
use Rattle.b2_base.specs.Segments.{is_rooted, is_up}
use Rattle.b2_base.specs.Normal.{parts}
use Rattle.b2_host.specs.Disks.{File, Folder}

-- A file of that name stands directly in the directory.
pub record IsDirectlyIn (folder : Folder) (dir name : List ℕ) : Type 0 where
  pub path : List ℕ
  pub file : File
  pub visible : folder path ≡ Some file
  pub rooted : is_rooted path ≡ is_rooted dir
  pub goes_on : parts path ≡ parts dir ++ name ∷ []
  pub not_above : dir ≡ codes "." → is_up name ≡ false

-- These are the names of the files directly in the directory, each once, in byte order.
pub record IsListed (folder : Folder) (dir : List ℕ) (names : List (List ℕ)) : Type 0 where
  pub each : (name : List ℕ) → Contains names name ↔ IsDirectlyIn folder dir name
  pub rising : (i j : ℕ) (d : List ℕ) → i < j → j < length names → slice_cmp nat_cmp (slice_index_or names i d) (slice_index_or names j d) ≡ orders.Less
