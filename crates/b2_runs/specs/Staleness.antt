use Rattle.std.specs.Prelude.{◌≡◌, ℕ, ◌<◌, ◌≤◌, Bool, true, false, List, [], Some, None, map}
use Rattle.std.specs.List.{Contains, AllZip}
use Rattle.b2_host.specs.declared.children.ChildEvent.{ChildEvent}
use Rattle.b2_host.specs.declared.children.ChildEvent.TheVariants.{Done}
use Rattle.b2_host.specs.Disks.{File, Folder, bytes_at}
use Rattle.b2_host.specs.FileCalls.{stamp_at}
use Rattle.b2_plan.specs.declared.step.Step.{Step}
use Rattle.b2_plan.specs.Plans.{Makes}
use Rattle.b2_plan.specs.Sources.{Build}
use Rattle.b2_plan.specs.Closures.{Value, with_bytes}
use Rattle.b2_log.specs.declared.line.Record.{Record}
use Rattle.b2_log.specs.declared.line.Digests.{Digests}
use Rattle.b2_log.specs.declared.line.LogLine.{LogLine}
use Rattle.b2_log.specs.Finding.{path_of, find_record}
use Rattle.b2_runs.specs.Logs.{Making}

-- What an update begins with: its plan with the files at entry, the log at entry, and the options.
pub record Update : Type 0 where
  pub build : Build
  pub log : List LogLine
  -- whether a path is that of a file that is scanned: a file that is not has no includes
  pub scanned : List ℕ → Bool
  pub unscanned : (path bytes : List ℕ) → scanned path ≡ false → build.inc path bytes ≡ []
  -- the digest of bytes
  pub digest : List ℕ → List ℕ
  -- judging is by digests; else it is by stamps
  pub by_digest : Bool
  -- all that is needed runs
  pub all : Bool
  -- nothing starts after a failure
  pub quit : Bool
  -- how many children may be open
  pub jobs : ℕ

-- what is made of bytes in an update
abbrev pub making : Update → Making
making u = record { made = u.build.made; inc = u.build.inc; digest = u.digest }

-- these are the paths, in order, with the stamps of the files there
abbrev pub AreStamped : Folder → List (List ℕ) → List (List ℕ × ℕ) → Type 0
AreStamped folder = AllZip (λ path stamped. (stamped.0 ≡ path) × (stamp_at folder path ≡ Some stamped.1))

-- these are the digests, in order, of the files at the paths
abbrev pub AreDigested : (List ℕ → List ℕ) → Folder → List (List ℕ) → List (List ℕ) → Type 0
AreDigested digest folder = AllZip (λ path text. (bytes : List ℕ) × (bytes_at folder path ≡ Some bytes) × (text ≡ digest bytes))

-- a member's path
abbrev pub path_in : List ℕ × List ℕ → List ℕ
path_in named = named.0

-- the paths of the members that have bytes
abbrev pub paths_with_bytes : List (List ℕ × Value) → List (List ℕ)
paths_with_bytes members = map path_in (with_bytes members)

-- no output of the step is older than a member
abbrev pub NoneOlder : Folder → Step → List (List ℕ × Value) → Type 0
NoneOlder folder step members = (out member : List ℕ) (value : Value) (written read : File) → Contains step.outs out → Contains members (member, value)
    → folder out ≡ Some written → folder member ≡ Some read → read.stamp ≤ written.stamp

-- no member is an output of a step that is done in this update
abbrev pub NoneDone : Update → List ChildEvent → List (List ℕ × Value) → Type 0
NoneDone u events members = (member : List ℕ) (value : Value) (i : ℕ) (other : Step) (well : Bool) → Contains members (member, value) → Makes u.build.steps i other member → Contains events (Done i well) → ⊥

-- A record of the step's outputs agrees by stamps: it has this text, these outputs with the stamps of the files there, and
-- exactly the members that have bytes, with the stamps of theirs; and no member is an output of a step that is done in this
-- update.
pub record AgreesByStamps (u : Update) (events : List ChildEvent) (step : Step) (members : List (List ℕ × Value)) (r : Record) : Type 0 where
  pub text : r.text ≡ step.text
  pub outs : AreStamped u.build.folder step.outs r.outs
  pub ins : AreStamped u.build.folder (paths_with_bytes members) r.ins
  pub none_done : NoneDone u events members

-- A record of the step's outputs agrees by digests: it has digests and this text, the digests of the outputs that stand, and
-- exactly the members that have bytes, with the digests of these bytes.
pub record AgreesByDigests (u : Update) (step : Step) (members : List (List ℕ × Value)) (r : Record) : Type 0 where
  pub text : r.text ≡ step.text
  pub digests : Digests
  pub has : r.digests ≡ Some digests
  pub outs : AreDigested u.digest u.build.folder step.outs digests.outs
  pub paths : map path_of r.ins ≡ paths_with_bytes members
  pub ins : digests.ins ≡ map (λ member. u.digest member.1) (with_bytes members)

-- a record agrees by stamps, or by digests where judging is by these
pub data Agrees (u : Update) (events : List ChildEvent) (step : Step) (members : List (List ℕ × Value)) (r : Record) : Type 0 where
  by_stamps : AgreesByStamps u events step members r → Agrees u events step members r
  by_digests : u.by_digest ≡ true → AgreesByDigests u step members r → Agrees u events step members r

-- The log's last line for the step's outputs is a record that agrees.
pub record IsRecorded (u : Update) (events : List ChildEvent) (step : Step) (members : List (List ℕ × Value)) : Type 0 where
  pub last : Record
  pub found : find_record step.outs u.log ≡ Some last
  pub agrees : Agrees u events step members last

-- A step with this closure is fresh, by the files and the log at entry and by the events so far: none of the five points
-- of staleness holds.
pub record IsFresh (u : Update) (events : List ChildEvent) (step : Step) (members : List (List ℕ × Value)) : Type 0 where
  -- 1: the update does not run all, and the step is neither always nor notfile
  pub not_all : u.all ≡ false
  pub not_always : step.always ≡ false
  pub not_notfile : step.notfile ≡ false
  -- 2: each output stands
  pub stand : (out : List ℕ) → Contains step.outs out → (file : File) × (u.build.folder out ≡ Some file)
  -- 3: where judging is by stamps, no output is older than a member
  pub none_older : u.by_digest ≡ false → NoneOlder u.build.folder step members
  -- 4: no member is an output of a notfile step, nor, where judging is by stamps, of a step that is done in this update
  pub none_notfile : (member : List ℕ) (value : Value) (i : ℕ) (other : Step) → Contains members (member, value) → Makes u.build.steps i other member → other.notfile ≡ false
  pub none_done : u.by_digest ≡ false → NoneDone u events members
  -- 5: the log's last line for these outputs is a record that agrees
  pub recorded : IsRecorded u events step members

-- a step with this closure is stale: it is not fresh
abbrev pub IsStale : Update → List ChildEvent → Step → List (List ℕ × Value) → Type 0
IsStale u events step members = IsFresh u events step members → ⊥

-- One of the five points of staleness holds of a step with this closure.
pub data StalePoint (u : Update) (events : List ChildEvent) (step : Step) (members : List (List ℕ × Value)) : Type 0 where
  -- 1: the update runs all, or the step is always or notfile
  runs_all : u.all ≡ true → StalePoint u events step members
  is_always : step.always ≡ true → StalePoint u events step members
  is_notfile : step.notfile ≡ true → StalePoint u events step members
  -- 2: an output is missing
  lacks : (out : List ℕ) → Contains step.outs out → u.build.folder out ≡ None → StalePoint u events step members
  -- 3: judging is by stamps, and an output is older than a member
  is_older : u.by_digest ≡ false → (out member : List ℕ) (value : Value) (written read : File) → Contains step.outs out → Contains members (member, value) → u.build.folder out ≡ Some written → u.build.folder member ≡ Some read → written.stamp < read.stamp → StalePoint u events step members
  -- 4: a member is an output of a notfile step; or judging is by stamps, and a member is an output of a step that is done in
  -- this update
  from_notfile : (member : List ℕ) (value : Value) (i : ℕ) (other : Step) → Contains members (member, value) → Makes u.build.steps i other member → other.notfile ≡ true → StalePoint u events step members
  is_done : u.by_digest ≡ false → (member : List ℕ) (value : Value) (i : ℕ) (other : Step) (well : Bool) → Contains members (member, value) → Makes u.build.steps i other member → Contains events (Done i well) → StalePoint u events step members
  -- 5: the log's last line for these outputs is not a record that agrees
  unrecorded : (IsRecorded u events step members → ⊥) → StalePoint u events step members
