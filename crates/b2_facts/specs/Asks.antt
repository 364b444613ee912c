-- What is asked of a host, and what is answered.
use Rattle.std.specs.Prelude.{◌≡◌, ◌⊎◌, ℕ, ◌<◌, Bool, true, false, List, ◌++◌, ◌∷◌, length, Option, Some, None, Result, Ok, Err, ⊤}
use Rattle.std.specs.List.{Contains, AllByRecursion}
use Rattle.std.specs.Option.{IfSome}
use Rattle.b2_host.specs.Disks.{Folder, Disk, bytes_at}
use Rattle.b2_host.specs.Outside.{Outside, Fails}
use Rattle.b2_host.specs.FileCalls.{after_read}
use Rattle.b2_plan.specs.Sources.{Include}
use Rattle.b2_log.specs.declared.line.LogLine.{LogLine}
use Rattle.b2_log.specs.declared.line.ScanLine.{ScanLine}
use Rattle.b2_log.specs.Finding.{find_scan}
use Rattle.jam_scan.specs.Places.{places}
use Rattle.jam_scan.specs.IncludeLines.{includes_of}
use Rattle.b2_facts.specs.Digests.{digest_of}
use Rattle.b2_facts.specs.declared.file_facts.FileLook.{FileLook}
use Rattle.b2_facts.specs.declared.file_facts.FileLook.TheVariants as seen
use Rattle.b2_facts.specs.declared.file_facts.FileFacts.{FileFacts}
use Rattle.b2_facts.specs.declared.fault.ReadFault.{ReadFault}
use Rattle.b2_facts.specs.declared.fault.ReadFault.TheVariants as faults
use Rattle.b2_facts.specs.declared.scans.ScanAnswer.{ScanAnswer}
use Rattle.b2_facts.specs.declared.scans.ScanAnswer.TheVariants as scanned
use Rattle.b2_facts.specs.Facts.{Knowledge, IsFile, IsRead, WasRead, path_at, file_at, dirs_at}

-- ---- stamps

-- what is seen of a file by its stamp
abbrev pub seen_of : Option ℕ → FileLook
seen_of None = seen.Gone
seen_of (Some stamp) = seen.Stands stamp

-- the file was seen to stand
abbrev pub is_seen : FileLook → Bool
is_seen seen.Unasked = false
is_seen seen.Gone = false
is_seen (seen.Stands stamp) = true

-- A file is given: a step makes it, or it was seen to stand outside the output roots.
pub data IsGivenBy (file : FileFacts) : Type 0 where
  made : (number : ℕ) → file.maker ≡ Some number → IsGivenBy file
  source : (stamp : ℕ) → file.rooted ≡ false → file.seen ≡ seen.Stands stamp → IsGivenBy file

-- No file is given: no step makes it, and it lies under an output root, or was seen to be gone.
pub record IsNotGivenBy (file : FileFacts) : Type 0 where
  pub unmade : file.maker ≡ None
  pub no_source : (file.rooted ≡ true) ⊎ (file.seen ≡ seen.Gone)

-- whether a file is given is known
abbrev pub IsToldGiven : FileFacts → Bool → Type 0
IsToldGiven file true = IsGivenBy file
IsToldGiven file false = IsNotGivenBy file

-- ---- includes

-- no file is given at a path
pub record IsMissingAt (f : Knowledge) (path : List ℕ) : Type 0 where
  pub number : ℕ
  pub file : FileFacts
  pub is_file : IsFile f number path file
  pub not_given : IsNotGivenBy file

-- the first of some places at which a file is given has this number
pub record IsFirstGiven (f : Knowledge) (tried : List (List ℕ)) (number : ℕ) : Type 0 where
  pub before : List (List ℕ)
  pub path : List ℕ
  pub after : List (List ℕ)
  pub places_are : tried ≡ before ++ path ∷ after
  pub file : FileFacts
  pub is_file : IsFile f number path file
  pub given : IsGivenBy file
  pub none_before : AllByRecursion (IsMissingAt f) before

-- the first of some places at which a file is given, or that there is none
abbrev pub IsTried : Knowledge → List (List ℕ) → Option ℕ → Type 0
IsTried f tried (Some number) = IsFirstGiven f tried number
IsTried f tried None = AllByRecursion (IsMissingAt f) tried

-- the number of a path where a file is given there, or that none is
abbrev pub IsTriedAt : Knowledge → List ℕ → Option ℕ → Type 0
IsTriedAt f path (Some number) = (file : FileFacts) × IsFile f number path file × IsGivenBy file
IsTriedAt f path None = IsMissingAt f path

-- so many includes of a file are known, and one more
abbrev pub HasInclude : FileFacts → ℕ → Type 0
HasInclude file at = (includes : List Include) × (file.includes ≡ Some includes) × (at < length includes)

-- A file with these includes is at hand, and directories to look for them in.
pub record IsLooking (f : Knowledge) (list n : ℕ) (path : List ℕ) (dirs : List (List ℕ)) (includes : List Include) : Type 0 where
  pub path_is : path_at f n ≡ Some path
  pub dirs_are : dirs_at f list ≡ Some dirs
  pub file : FileFacts
  pub file_is : file_at f n ≡ Some file
  pub includes_are : file.includes ≡ Some includes

-- the numbers at which some includes of a file are found, each looked for in some directories
pub record AreFirsts (f : Knowledge) (dirs : List (List ℕ)) (path : List ℕ) (includes : List Include) (targets : List ℕ) : Type 0 where
  pub each : (target : ℕ) → Contains targets target
      → (include : Include) × Contains includes include × IsFirstGiven f (places dirs path include) target
  pub whole : (include : Include) → Contains includes include
      → ((target : ℕ) × Contains targets target × IsFirstGiven f (places dirs path include) target)
      ⊎ AllByRecursion (IsMissingAt f) (places dirs path include)

-- ---- reads

-- the digest of a file after a read: where it is taken, and was not known, that of the bytes
abbrev pub taken : Bool → List ℕ → Option (List ℕ) → Option (List ℕ)
taken by_digest bytes (Some digest) = Some digest
taken true bytes None = Some (digest_of bytes)
taken false bytes None = None

-- The file is one that is scanned. It was seen to stand with this stamp, and what it includes is not known.
pub record IsToRead (file : FileFacts) (stamp : ℕ) : Type 0 where
  pub scanned : file.scanned ≡ true
  pub stands : file.seen ≡ seen.Stands stamp
  pub unread : file.includes ≡ None

-- what is known of a file after its bytes were read to be scanned
abbrev pub with_bytes : Bool → List ℕ → FileFacts → FileFacts
with_bytes by_digest bytes file = record file { includes = Some (includes_of bytes); digest = taken by_digest bytes file.digest }

-- A file was read to be scanned: it was seen to stand, and the log has no scan line for its stamp.
pub record ReadsToScan (f : Knowledge) (number : ℕ) (lines : List LogLine) (before after : Outside) : Type 0 where
  pub path : List ℕ
  pub file : FileFacts
  pub is_file : IsFile f number path file
  pub stamp : ℕ
  pub stands : file.seen ≡ seen.Stands stamp
  pub unknown : find_scan path stamp lines ≡ None
  pub read : after ≡ after_read path before

-- what a scan does to the host, by its answer: at most one read, and none of a file whose includes are known
abbrev pub Scans : Knowledge → ℕ → List LogLine → Outside → Outside → Result ScanAnswer ReadFault → Type 0
Scans f number lines before after (Ok scanned.Known) = after ≡ before
Scans f number lines before after (Ok (scanned.Read line)) = ReadsToScan f number lines before after
Scans f number lines before after (Ok scanned.Gone) = (after ≡ before) ⊎ ReadsToScan f number lines before after
Scans f number lines before after (Err faults.Failed) = Fails before after
Scans f number lines before after (Err faults.OutOfMemory) = (after ≡ before) ⊎ ReadsToScan f number lines before after
Scans f number lines before after (Err (faults.TooBig size)) = ReadsToScan f number lines before after

-- what is done to the host where a file is read to be scanned
abbrev pub ReadsForAnswer : List ℕ → Outside → Outside → Result ScanAnswer ReadFault → Type 0
ReadsForAnswer path before after (Ok scanned.Known) = ⊥
ReadsForAnswer path before after (Ok (scanned.Read line)) = after ≡ after_read path before
ReadsForAnswer path before after (Ok scanned.Gone) = after ≡ after_read path before
ReadsForAnswer path before after (Err faults.Failed) = Fails before after
ReadsForAnswer path before after (Err faults.OutOfMemory) = (after ≡ before) ⊎ (after ≡ after_read path before)
ReadsForAnswer path before after (Err (faults.TooBig size)) = after ≡ after_read path before

-- The file was seen to stand, and the log has a scan line for its stamp, with what it includes.
pub record IsToldByLog (lines : List LogLine) (path : List ℕ) (file : FileFacts) : Type 0 where
  pub stamp : ℕ
  pub stands : file.seen ≡ seen.Stands stamp
  pub line : ScanLine
  pub found : find_scan path stamp lines ≡ Some line
  pub includes : file.includes ≡ Some line.includes

-- the line is the scan line of the file
pub record IsLineOf (line : ScanLine) (path : List ℕ) (file : FileFacts) : Type 0 where
  pub path_is : line.path ≡ path
  pub stands : file.seen ≡ seen.Stands line.stamp
  pub includes : file.includes ≡ Some line.includes

-- The file was seen to stand, and was gone when it was read: it counts as one without includes.
pub record IsGoneAtRead (disk : Option Disk) (path : List ℕ) (file : FileFacts) : Type 0 where
  pub read : IsRead file
  pub gone : IfSome disk (λ d. d.now path ≡ None)

-- What is known of a file once it was scanned: what it includes, as it was known before, by the log, or by the line where it was
-- read; or that it is gone.
abbrev pub IsScannedAs : Option Disk → List LogLine → Knowledge → ℕ → List ℕ → FileFacts → ScanAnswer → Type 0
IsScannedAs disk lines f number path file scanned.Known = WasRead f number ⊎ IsToldByLog lines path file
IsScannedAs disk lines f number path file (scanned.Read line) = IsLineOf line path file
IsScannedAs disk lines f number path file scanned.Gone = (file.seen ≡ seen.Gone) ⊎ IsGoneAtRead disk path file

-- what is known of a file once it was read
abbrev pub IsReadAnswer : Option Disk → List ℕ → FileFacts → ScanAnswer → Type 0
IsReadAnswer disk path file scanned.Known = ⊥
IsReadAnswer disk path file (scanned.Read line) = IsLineOf line path file
IsReadAnswer disk path file scanned.Gone = IsGoneAtRead disk path file

-- by digests the digest of a file that was read to be scanned is known, so that it is not read again
abbrev pub TakesDigest : Bool → FileFacts → ScanAnswer → Type 0
TakesDigest by_digest file scanned.Known = ⊤
TakesDigest by_digest file (scanned.Read line) = by_digest ≡ true → (digest : List ℕ) × (file.digest ≡ Some digest)
TakesDigest by_digest file scanned.Gone = ⊤

-- what a digest does to the host, by its answer: at most one read of this path
abbrev pub ReadsAtMost : {T : Type 0} → List ℕ → Outside → Outside → Result T ReadFault → Type 0
ReadsAtMost path before after (Ok x) = (after ≡ before) ⊎ (after ≡ after_read path before)
ReadsAtMost path before after (Err faults.Failed) = Fails before after
ReadsAtMost path before after (Err faults.OutOfMemory) = (after ≡ before) ⊎ (after ≡ after_read path before)
ReadsAtMost path before after (Err (faults.TooBig size)) = after ≡ after_read path before

-- a file that is too big has so many bytes, which are more than so many
abbrev pub IsTooBigFor : ℕ → List ℕ → Folder → ReadFault → Type 0
IsTooBigFor most path now faults.Failed = ⊤
IsTooBigFor most path now faults.OutOfMemory = ⊤
IsTooBigFor most path now (faults.TooBig size) =
    (bytes : List ℕ) × (bytes_at now path ≡ Some bytes) × (size ≡ length bytes) × (most < size)
