-- What stamps tell: which file is gone, which output is older than a member, and where a record tells other files.
use Rattle.std.specs.Prelude.{◌≡◌, ◌⊎◌, ℕ, ◌<◌, ◌≤◌, List, length, slice_get, slice_index, Some, None}
use Rattle.b2_facts.specs.Facts.{Knowledge, path_at}
use Rattle.b2_verdicts.specs.Sights.{stamp_of, IsStanding}

-- Of these files the one at a place is the first that was not seen to stand.
pub record IsFirstGone (g : Knowledge) (ns : List ℕ) (place : ℕ) : Type 0 where
  pub within : place < length ns
  pub gone : stamp_of g (slice_index ns place) ≡ None
  pub others : (k : ℕ) → k < place → IsStanding g (slice_index ns k)

-- ---- outputs that are older

-- the file with a number was seen to stand, and is newer than a stamp
abbrev pub IsNewer : Knowledge → ℕ → ℕ → Type 0
IsNewer g stamp n = (read : ℕ) × (stamp_of g n ≡ Some read) × (stamp < read)

-- the file with a number is not newer than a stamp
abbrev pub IsNoNewer : Knowledge → ℕ → ℕ → Type 0
IsNoNewer g stamp n = (read : ℕ) → stamp_of g n ≡ Some read → read ≤ stamp

-- none of these files is newer than a stamp
abbrev pub NoneNewer : Knowledge → ℕ → List ℕ → Type 0
NoneNewer g stamp ns = (k : ℕ) → k < length ns → IsNoNewer g stamp (slice_index ns k)

-- Of these files the one at a place is the first that is newer than a stamp.
pub record IsFirstNewer (g : Knowledge) (stamp : ℕ) (ns : List ℕ) (place : ℕ) : Type 0 where
  pub within : place < length ns
  pub newer : IsNewer g stamp (slice_index ns place)
  pub others : (k : ℕ) → k < place → IsNoNewer g stamp (slice_index ns k)

-- an output is not older than any of these members
abbrev pub IsNotOlder : Knowledge → List ℕ → ℕ → Type 0
IsNotOlder g ins out = (written : ℕ) → stamp_of g out ≡ Some written → NoneNewer g written ins

-- no output is older than a member
abbrev pub NoneOlder : Knowledge → List ℕ → List ℕ → Type 0
NoneOlder g outs ins = (k : ℕ) → k < length outs → IsNotOlder g ins (slice_index outs k)

-- The output at a place is the first that is older than a member, and this member the first that is newer.
pub record IsFirstOlder (g : Knowledge) (outs ins : List ℕ) (out member : ℕ) : Type 0 where
  pub within : out < length outs
  pub written : ℕ
  pub written_is : stamp_of g (slice_index outs out) ≡ Some written
  pub newer : IsFirstNewer g written ins member
  pub others : (k : ℕ) → k < out → IsNotOlder g ins (slice_index outs k)

-- ---- what a record tells

-- a record has the path of a file, with the stamp with which it was seen to stand
abbrev pub IsLogged : Knowledge → List ℕ × ℕ → ℕ → Type 0
IsLogged g logged n = (path_at g n ≡ Some logged.0) × (stamp_of g n ≡ Some logged.1)

-- Up to a place a record has these files, in order, with the stamps that were seen.
abbrev pub AgreeUpTo : Knowledge → List (List ℕ × ℕ) → List ℕ → ℕ → Type 0
AgreeUpTo g logged ns place =
    (k : ℕ) (one : List ℕ × ℕ) → k < place → slice_get logged k ≡ Some one → IsLogged g one (slice_index ns k)

-- A record has these files and no others, in order, with the stamps that were seen.
pub record AreLogged (g : Knowledge) (logged : List (List ℕ × ℕ)) (ns : List ℕ) : Type 0 where
  pub count : length logged ≡ length ns
  pub each : AgreeUpTo g logged ns (length ns)

-- At a place a record first has another file than these, or another stamp, or none, or one more. Up to there both have a file at
-- each place.
pub record IsFirstOther (g : Knowledge) (logged : List (List ℕ × ℕ)) (ns : List ℕ) (place : ℕ) : Type 0 where
  pub within : (place < length logged) ⊎ (place < length ns)
  pub in_logged : place ≤ length logged
  pub in_files : place ≤ length ns
  pub before : AgreeUpTo g logged ns place
  pub other : (one : List ℕ × ℕ) → slice_get logged place ≡ Some one → place < length ns
      → IsLogged g one (slice_index ns place) → ⊥
