-- What a verdict asks of a host, and what it learns.
use Rattle.std.specs.Prelude.{◌≡◌, ◌⊎◌, ℕ, ◌<◌, Bool, false, List, length, Option, Some, None, Result, IfErr, ⊤}
use Rattle.std.specs.List.{Contains, AllZip}
use Rattle.std.specs.Option.{IfSome}
use Rattle.b2_host.specs.Disks.{Folder, Disk, bytes_at}
use Rattle.b2_host.specs.FileCalls.{log_path, stamp_at}
use Rattle.b2_host.specs.Outside.{Outside, Read}
use Rattle.b2_host.specs.ReadsAdded.{AddsReads}
use Rattle.b2_host.specs.LogChanges.{ChangesOnlyLog}
use Rattle.b2_plan.specs.declared.step.Step.{Step}
use Rattle.b2_log.specs.declared.line.Record.{Record}
use Rattle.b2_log.specs.declared.line.Digests.{Digests}
use Rattle.b2_runs.specs.Logs.{Making}
use Rattle.b2_runs.specs.LogLaws.{TellsDigest}
use Rattle.b2_runs.specs.FileReads.{digest_limit}
use Rattle.b2_facts.specs.declared.stop.FilesStop.{FilesStop}
use Rattle.b2_facts.specs.declared.stop.FilesStop.TheVariants as stops
use Rattle.b2_facts.specs.Stops.{StopTold}
use Rattle.b2_facts.specs.Digests.{digest_of}
use Rattle.b2_facts.specs.Facts.{Knowledge, path_at}
use Rattle.b2_facts.specs.Growth.{Learns, IncludesStay}
use Rattle.b2_facts.specs.Truth.{StaysTrue}
use Rattle.b2_verdicts.specs.declared.step_numbers.StepNumbers.{StepNumbers}
use Rattle.b2_verdicts.specs.Sights.{digest_at}

-- the file with a number is an output of the step, or a member that has bytes
abbrev pub IsOfStep : StepNumbers → ℕ → Type 0
IsOfStep numbers n = Contains numbers.outs n ⊎ Contains numbers.ins n

-- the path is that of one of these files, of which no digest was known
abbrev pub IsUndigested : (ℕ → Type 0) → Knowledge → Knowledge → List ℕ → Type 0
IsUndigested P f g path = (n : ℕ) × P n × (digest_at f n ≡ None) × (path_at g n ≡ Some path)

-- ---- the host

-- The read took in a file, and stood beside the log, as both stand now.
pub record IsReadNow (now : Folder) (read : Read) : Type 0 where
  pub stamp : read.stamp ≡ stamp_at now read.path
  pub log : read.log ≡ stamp_at now log_path

-- Nothing changed but the reads and the count of faults. Each read is of one of these paths, with the stamps that stand now.
pub record ReadsOnly (P : List ℕ → Type 0) (before after : Outside) : Type 0 where
  pub only_log : ChangesOnlyLog before after
  pub files : after.disk ≡ before.disk
  pub more : List Read
  pub adds : AddsReads more before.reads after.reads
  pub each : (read : Read) → Contains more read → P read.path
  pub stamps : (read : Read) → Contains more read → IfSome before.disk (λ disk. IsReadNow disk.now read)

-- this holds where a file is too big
abbrev pub IfTooBig : Type 0 → FilesStop → Type 0
IfTooBig P stops.Host = ⊤
IfTooBig P stops.OutOfMemory = ⊤
IfTooBig P (stops.TooBig number size) = P

-- a file that is too big is one of these, and has so many bytes, which are more than are digested
abbrev pub IsTooBigOf : (ℕ → Type 0) → Knowledge → Folder → FilesStop → Type 0
IsTooBigOf P g now stops.Host = ⊤
IsTooBigOf P g now stops.OutOfMemory = ⊤
IsTooBigOf P g now (stops.TooBig number size) =
    P number
    × ((path : List ℕ) → path_at g number ≡ Some path → (bytes : List ℕ) × (bytes_at now path ≡ Some bytes) × (size ≡ length bytes) × (digest_limit < size))

-- ---- what is learned

-- the digests that a record has tell of each file that stands with its stamp
abbrev pub RecordTells : Making → Folder → Record → Type 0
RecordTells m now found =
    (digests : Digests) → found.digests ≡ Some digests
    → AllZip (TellsDigest m now) found.outs digests.outs × AllZip (TellsDigest m now) found.ins digests.ins

-- the last record tells so, if there is one
pub record LastTells (last : Option Record) (now : Folder) : Type 0 where
  pub m : Making
  pub digest : m.digest ≡ digest_of
  pub tells : IfSome last (RecordTells m now)

-- the last record tells so, unless all steps are to run: then records need not be true
abbrev pub LastTellsUnless : Bool → Option Record → Folder → Type 0
LastTellsUnless all last now = all ≡ false → LastTells last now

-- More is known than before, or as much. What is learned is of the files P, and is not what they include. It is true where Q
-- holds of the files as they stand.
pub record KnowsMore (P : ℕ → Type 0) (disk : Option Disk) (Q : Folder → Type 0) (f g : Knowledge) : Type 0 where
  pub learns : (steps : List Step) (roots : List (List ℕ)) → Learns steps roots P f g
  pub includes : IncludesStay f g
  pub stays : IfSome disk (λ d. Q d.now → (steps : List Step) (roots : List (List ℕ)) → StaysTrue steps roots d.now f g)

-- nothing is asked of the files
abbrev pub Always : Folder → Type 0
Always now = ⊤

-- A host was asked for the files P. Nothing changed but the reads and the count of faults. Each read is of one of these files,
-- whose digest was not known. The count tells whether the host failed. More is known, and truly where Q holds of the files. A
-- file that is too big is one of these.
pub record Asks {T : Type 0} (P : ℕ → Type 0) (Q : Folder → Type 0) (f g : Knowledge)
    (before after : Outside) (r : Result T FilesStop) : Type 0 where
  pub effect : ReadsOnly (IsUndigested P f g) before after
  pub counts : StopTold before after r
  pub learns : KnowsMore P before.disk Q f g
  pub too_big : IfErr r (λ stop. IfSome before.disk (λ disk. IsTooBigOf P g disk.now stop))
