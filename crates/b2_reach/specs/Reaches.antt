-- What a step is known to read so far, by what is known of files and by the steps that are settled.
use Rattle.std.specs.Prelude.{◌≡◌, ◌≢◌, ℕ, ◌<◌, ◌≤◌, true, false, List, ◌++◌, length, Some, slice_get}
use Rattle.std.specs.List.{Contains, AllPairs}
use Rattle.b2_plan.specs.declared.step.Step.{Step}
use Rattle.b2_facts.specs.declared.file_facts.FileFacts.{FileFacts}
use Rattle.b2_facts.specs.declared.file_facts.FileLook.TheVariants as seen
use Rattle.b2_facts.specs.Facts.{Knowledge, IsNumber, IsList, path_at, file_at, dirs_at, found_at}
use Rattle.b2_facts.specs.Asks.{IsGivenBy, IsNotGivenBy}
use Rattle.b2_reach.specs.Files.{IsOwedBy, IsOwedByNone, IsAtHand}
use Rattle.b2_reach.specs.declared.reach.Reach.{Reach}

-- ---- what is reached

-- one of the includes of file n is found at file m, in the directories of a list
pub record IsTarget (f : Knowledge) (list n m : ℕ) : Type 0 where
  pub targets : List ℕ
  pub found : found_at f list n ≡ Some targets
  pub among : Contains targets m

-- The least set with these first numbers and, for each of its files that is at hand, the files that its includes are found at.
pub data Reaches (steps : List Step) (settled : ℕ → Type 0) (f : Knowledge) (list : ℕ) (First : ℕ → Type 0) : ℕ → Type 0 where
  first : (n : ℕ) → First n → Reaches steps settled f list First n
  include : (n m : ℕ) (file : FileFacts) → Reaches steps settled f list First n → file_at f n ≡ Some file
      → IsAtHand steps settled file → IsTarget f list n m → Reaches steps settled f list First m

-- the number is that of one of these paths
pub record IsNumberOf (f : Knowledge) (paths : List (List ℕ)) (n : ℕ) : Type 0 where
  pub path : List ℕ
  pub path_is : path_at f n ≡ Some path
  pub among : Contains paths path

-- ---- what is done with a member

-- Nothing more is to be read of a member: it is given and is not scanned, or an output of a step that owes none; or it is at
-- hand, and was seen to be gone, or all files that its includes are found at are members.
pub data IsDone (steps : List Step) (settled : ℕ → Type 0) (f : Knowledge) (list : ℕ) (members : List ℕ) (n : ℕ)
    (file : FileFacts) : Type 0 where
  plain : IsGivenBy file → file.scanned ≡ false → IsDone steps settled f list members n file
  no_file : IsOwedByNone steps file → IsDone steps settled f list members n file
  gone : IsAtHand steps settled file → file.seen ≡ seen.Gone → IsDone steps settled f list members n file
  found : (targets : List ℕ) → IsAtHand steps settled file → found_at f list n ≡ Some targets
      → ((m : ℕ) → Contains targets m → Contains members m) → IsDone steps settled f list members n file

-- a member is to wait for its maker: it is scanned, and its maker owes it
pub record IsToWait (steps : List Step) (file : FileFacts) : Type 0 where
  pub scanned : file.scanned ≡ true
  pub number : ℕ
  pub owed : IsOwedBy steps file number

-- what was done with a member at a place that is done: it waits for its maker, it is missing, or nothing more is to be read of it
pub data IsTaken (steps : List Step) (settled : ℕ → Type 0) (f : Knowledge) (r : Reach) (n : ℕ)
    (file : FileFacts) : Type 0 where
  waits : Contains r.pending n → IsTaken steps settled f r n file
  lacks : r.lacks ≡ true → IsNotGivenBy file → IsTaken steps settled f r n file
  done : IsDone steps settled f r.list r.members n file → IsTaken steps settled f r n file

-- a member is missing: no step makes it, and it is no source
pub record IsMissingMember (f : Knowledge) (members : List ℕ) (n : ℕ) : Type 0 where
  pub among : Contains members n
  pub file : FileFacts
  pub file_is : file_at f n ≡ Some file
  pub missing : IsNotGivenBy file

-- ---- the work on a step

-- The work is in order: each member has a number and is there once; each at a place that is done was taken; those that are
-- pending wait for their makers; and something lacks only where a member is missing.
pub record IsInOrder (steps : List Step) (settled : ℕ → Type 0) (f : Knowledge) (r : Reach) : Type 0 where
  pub listed : IsList f r.list
  pub numbered : (n : ℕ) → Contains r.members n → IsNumber f n
  pub once : AllPairs (λ n m. n ≢ m) r.members
  pub within : r.done ≤ length r.members
  pub taken : (place n : ℕ) (file : FileFacts) → place < r.done → slice_get r.members place ≡ Some n
      → file_at f n ≡ Some file → IsTaken steps settled f r n file
  pub pending : (n : ℕ) → Contains r.pending n → Contains r.members n
  pub waiting : (n : ℕ) (file : FileFacts) → Contains r.pending n → file_at f n ≡ Some file → IsToWait steps file
  pub lacks : r.lacks ≡ true → (n : ℕ) × IsMissingMember f r.members n

-- The work is on this step: its directories are those of the list, each of its inputs is a member, and each member is an input or
-- was found from them.
pub record IsOfStep (steps : List Step) (settled : ℕ → Type 0) (step : Step) (f : Knowledge) (r : Reach) : Type 0 where
  pub dirs : dirs_at f r.list ≡ Some step.dirs
  pub ins : (path : List ℕ) → Contains step.ins path → (n : ℕ) × Contains r.members n × (path_at f n ≡ Some path)
  pub each : (n : ℕ) → Contains r.members n → Reaches steps settled f r.list (IsNumberOf f step.ins) n

-- what is known so far of what a step reads
pub record IsReachOf (steps : List Step) (settled : ℕ → Type 0) (step : Step) (f : Knowledge) (r : Reach) : Type 0 where
  pub in_order : IsInOrder steps settled f r
  pub of_step : IsOfStep steps settled step f r

-- All is done that can be: each member was taken, and each that is pending is made by a step that is not settled.
pub record IsAsFar (settled : ℕ → Type 0) (f : Knowledge) (r : Reach) : Type 0 where
  pub whole : r.done ≡ length r.members
  pub waiting : (n number : ℕ) (file : FileFacts) → Contains r.pending n → file_at f n ≡ Some file
      → file.maker ≡ Some number → settled number → ⊥

-- More members came in, at the end, each found from those before.
pub record Gathers (steps : List Step) (settled : ℕ → Type 0) (f : Knowledge) (r q : Reach) : Type 0 where
  pub list : q.list ≡ r.list
  pub added : List ℕ
  pub members : q.members ≡ r.members ++ added
  pub each : (n : ℕ) → Contains added n → Reaches steps settled f r.list (Contains r.members) n
