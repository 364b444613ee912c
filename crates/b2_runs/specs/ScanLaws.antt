use Rattle.std.specs.Prelude.{◌≡◌, ℕ, List, Some}
use Rattle.b2_host.specs.Disks.{File, Disk, IsConsistent, bytes_at}
use Rattle.b2_log.specs.declared.line.ScanLine.{ScanLine}
use Rattle.b2_log.specs.declared.line.LogLine.{LogLine}
use Rattle.b2_log.specs.Finding.{find_scan}
use Rattle.b2_runs.specs.Logs.{Making, IsTrueScan, ScansTrue}
use Rattle.b2_host.specs.FileCalls.{stamp_at}

-- the scan line of a file that was read is true
abbrev pub ScanIsTrue : Type 0
ScanIsTrue = (m : Making) (disk : Disk) (path : List ℕ) (file : File) → IsConsistent disk → disk.now path ≡ Some file → IsTrueScan m disk.past (record { path = path; stamp = file.stamp; includes = m.inc path file.bytes })

-- a true scan line with the stamp of the file that stands at its path tells the includes of this file
abbrev pub ScanTells : Type 0
ScanTells = (m : Making) (disk : Disk) (s : ScanLine) (bytes : List ℕ) → IsConsistent disk → IsTrueScan m disk.past s → stamp_at disk.now s.path ≡ Some s.stamp → bytes_at disk.now s.path ≡ Some bytes → s.includes ≡ m.inc s.path bytes

-- so does the one that a log with true scan lines gives for the present stamp of a file
abbrev pub FoundScanTells : Type 0
FoundScanTells = (m : Making) (disk : Disk) (log : List LogLine) (path : List ℕ) (stamp : ℕ) (s : ScanLine) (bytes : List ℕ) → IsConsistent disk → ScansTrue m disk.past log → find_scan path stamp log ≡ Some s
    → stamp_at disk.now path ≡ Some stamp → bytes_at disk.now path ≡ Some bytes → s.includes ≡ m.inc path bytes
