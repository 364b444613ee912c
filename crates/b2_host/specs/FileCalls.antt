use Rattle.std.specs.Prelude.{◌≡◌, ◌⊎◌, ℕ, ◌<◌, List, [], ◌∷◌, ◌++◌, take, codes, Option, Some, unwrap_or, Result, Ok, Err}
use Rattle.std.specs.Option.{IfSome, option_map}
use Rattle.std.specs.List.{Contains}
use Rattle.b2_host.specs.declared.fault.Failed.{Failed}
use Rattle.b2_host.specs.declared.fault.IoFault.{IoFault}
use Rattle.b2_host.specs.declared.fault.IoFault.TheVariants as faults
use Rattle.b2_host.specs.Disks.{File, Folder, Disk, Past, put, bytes_at, without}
use Rattle.b2_host.specs.ChildProcesses.{one_more}
use Rattle.b2_host.specs.Outside.{Outside, Fails}

-- the file of the log
abbrev pub log_path : List ℕ
log_path = codes "bin/b2.log"

abbrev pub stamp_at : Folder → List ℕ → Option ℕ
stamp_at folder path = option_map (λ file. file.stamp) (folder path)

-- the outside after a read that was answered
abbrev pub after_read : List ℕ → Outside → Outside
after_read path before = record before {
  reads = one_more before.reads (option_map (λ disk. record { path = path; stamp = stamp_at disk.now path; log = stamp_at disk.now log_path }) before.disk);
}

-- a read is answered and noted, or it fails
abbrev pub Reads : {T : Type 0} → List ℕ → Outside → Outside → Result T IoFault → Type 0
Reads path before after (Ok x) = after ≡ after_read path before
Reads path before after (Err faults.Failed) = Fails before after
Reads path before after (Err faults.OutOfMemory) = after ≡ before

-- the outside without the file at a path
abbrev pub removed : List ℕ → Outside → Outside
removed path before = record before { disk = option_map (without path) before.disk }

-- a removal; where it fails, the file stands or does not
abbrev pub Removes : {T : Type 0} → List ℕ → Outside → Outside → Result T Failed → Type 0
Removes path before after (Ok x) = after ≡ removed path before
Removes path before after (Err e) = Fails before after ⊎ Fails (removed path before) after

-- the disk with a new file at a path, which stands among the past from now on
abbrev pub stored : List ℕ → File → Disk → Disk
stored path file disk = record { now = put path (Some file) disk.now; past = disk.past ++ record { path = path; file = file } ∷ [] }

-- A file is put at a path, with bytes that depend on the disk and a stamp above all that stood.
pub record Puts (path : List ℕ) (bytes : Disk → List ℕ) (before after : Outside) : Type 0 where
  pub stamp : ℕ
  pub newest : IfSome before.disk (λ disk. (old : Past) → Contains disk.past old → old.file.stamp < stamp)
  pub same : after ≡ record before { disk = option_map (λ disk. stored path (record { stamp = stamp; bytes = bytes disk }) disk) before.disk }

-- the bytes at a path and a piece after them
abbrev pub with_piece : List ℕ → List ℕ → Disk → List ℕ
with_piece path piece disk = unwrap_or (bytes_at disk.now path) [] ++ piece

-- A write of a piece, of which a prefix may stand where it fails.
abbrev pub Writes : {T : Type 0} → List ℕ → (List ℕ → Disk → List ℕ) → List ℕ → Outside → Outside → Result T IoFault → Type 0
Writes path bytes piece before after (Ok x) = Puts path (bytes piece) before after
Writes path bytes piece before after (Err faults.Failed) =
    Fails before after ⊎ ((count : ℕ) × (torn : Outside) × Puts path (bytes (take count piece)) before torn × Fails torn after)
Writes path bytes piece before after (Err faults.OutOfMemory) = after ≡ before

-- a piece is added to a file
abbrev pub Appends : {T : Type 0} → List ℕ → List ℕ → Outside → Outside → Result T IoFault → Type 0
Appends path piece = Writes path (with_piece path) piece

-- a piece takes the place of a file
abbrev pub Replaces : {T : Type 0} → List ℕ → List ℕ → Outside → Outside → Result T IoFault → Type 0
Replaces path piece = Writes path (λ bytes disk. bytes) piece
