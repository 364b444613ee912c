-- Files by their numbers.
use Rattle.std.specs.Prelude.{◌≡◌, ℕ, ◌<◌, List, length, slice_index, Some}
use Rattle.std.specs.List.{Contains}
use Rattle.b2_base.specs.Bytes.{Before}
use Rattle.b2_sched.specs.Schedules.{Schedule, IsSettled}
use Rattle.b2_facts.specs.declared.file_facts.FileFacts.{FileFacts}
use Rattle.b2_facts.specs.Facts.{Knowledge, path_at, file_at}
use Rattle.b2_verdicts.specs.Sights.{stamp_of}

-- The path is that of a file with the property, and no such file stands before it in byte order of path.
pub record IsFirstFile (f : Knowledge) (P : ℕ → Type 0) (path : List ℕ) : Type 0 where
  pub number : ℕ
  pub so : P number
  pub path_is : path_at f number ≡ Some path
  pub none_before : (other : ℕ) (one : List ℕ) → P other → path_at f other ≡ Some one → Before one path → ⊥

-- the file has the property, and no such file stands before it in byte order of path
pub record IsFirstNumber (f : Knowledge) (P : ℕ → Type 0) (number : ℕ) : Type 0 where
  pub so : P number
  pub none_before : (other : ℕ) (path one : List ℕ) → P other → path_at f number ≡ Some path → path_at f other ≡ Some one
      → Before one path → ⊥

-- the member is an output of a step that is not settled
pub record IsUnsettledMember (s : Schedule) (f : Knowledge) (members : List ℕ) (n : ℕ) : Type 0 where
  pub among : Contains members n
  pub file : FileFacts
  pub file_is : file_at f n ≡ Some file
  pub maker : ℕ
  pub made : file.maker ≡ Some maker
  pub unsettled : IsSettled s maker → ⊥

-- the file at a place has this path, and was seen to stand with this stamp
pub record IsSeenAt (f : Knowledge) (ns : List ℕ) (place : ℕ) (path : List ℕ) (stamp : ℕ) : Type 0 where
  pub within : place < length ns
  pub path_is : path_at f (slice_index ns place) ≡ Some path
  pub stamp_is : stamp_of f (slice_index ns place) ≡ Some stamp
