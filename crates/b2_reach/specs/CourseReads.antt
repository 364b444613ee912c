-- What an update has read, and the lines that its reads left in the log.
use Rattle.std.specs.Prelude.{◌≡◌, ℕ, List, Option, Some}
use Rattle.std.specs.List.{AllByRecursion}
use Rattle.b2_host.specs.declared.children.ChildEvent.{ChildEvent}
use Rattle.b2_host.specs.Disks.{Disk, IsConsistent}
use Rattle.b2_host.specs.Outside.{Outside, Read}
use Rattle.b2_log.specs.declared.line.LogLine.{LogLine}
use Rattle.b2_log.specs.Good.{IsGood}
use Rattle.b2_runs.specs.Staleness.{Update}
use Rattle.b2_runs.specs.FileReads.{ReadsOnce, ReadsLeaveLines, HaveLines}
use Rattle.b2_journal.specs.Notes.{HasLines}

-- Each of these reads was called for, and has its line in the log, whose file has its lines.
pub record AreReadWell (u : Update) (events : List ChildEvent) (entry : Option (List ℕ)) (log : List LogLine)
    (disk : Disk) (reads : List Read) : Type 0 where
  pub consistent : IsConsistent disk
  pub good : AllByRecursion IsGood log
  pub lines : HasLines entry disk.now log
  pub once : ReadsOnce u events disk.past reads
  pub leave : ReadsLeaveLines u disk.past reads
  pub have : HaveLines u events disk.past disk.now log reads

-- where files are visible that is so
abbrev pub ReadsWell : Update → List ChildEvent → Option (List ℕ) → List LogLine → Outside → Type 0
ReadsWell u events entry log outside = (disk : Disk) (reads : List Read) → outside.disk ≡ Some disk
    → outside.reads ≡ Some reads → AreReadWell u events entry log disk reads

-- where files are visible each read was called for, and each but the last has its line in the log at the next
abbrev pub ReadsUpToLast : Update → List ChildEvent → Outside → Type 0
ReadsUpToLast u events outside = (disk : Disk) (reads : List Read) → outside.disk ≡ Some disk
    → outside.reads ≡ Some reads → ReadsOnce u events disk.past reads × ReadsLeaveLines u disk.past reads
