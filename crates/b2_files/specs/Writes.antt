use Rattle.std.specs.Prelude.{ℕ, ◌+◌, List, [], length, fold, Option, Some, None}
use Rattle.b2_host.specs.Disks.{File, Disk, without}
use Rattle.b2_host.specs.FileCalls.{stored}

-- The file that a write makes: its stamp is one more than the number of files that ever stood.
abbrev pub next_file : List ℕ → Disk → File
next_file bytes disk = record { stamp = length disk.past + 1; bytes = bytes }

-- the disk after a write of bytes to a path
abbrev pub written : List ℕ → List ℕ → Disk → Disk
written path bytes disk = stored path (next_file bytes disk) disk

-- the disk after writes, one after another
abbrev pub all_written : List (List ℕ × List ℕ) → Disk → Disk
all_written writes disk = fold (λ so_far write. written write.0 write.1 so_far) disk writes

-- the disk after an edit, which writes bytes or deletes
abbrev pub edited : List ℕ → Option (List ℕ) → Disk → Disk
edited path (Some bytes) disk = written path bytes disk
edited path None disk = without path disk

-- the disk on which nothing ever stood
abbrev pub blank : Disk
blank = record { now = λ path. None; past = [] }
