-- What a load is given over a consistent disk is right.
use Rattle.std.proofs.Common.{ℕ, Option}
use Rattle.b2_host.specs.Disks.{Disk, IsConsistent}
use Rattle.jam_journal.specs.Tables.{Text}
use Rattle.jam_meaning.specs.Settings.{IsSetting}
use Rattle.b2_own_text.proofs.EvaluationsGiveWhatIsTold.{right as rightly_seen}
use Rattle.b2_prepare.specs.Meaning.{load_setting}

-- it sees what evaluations of the project's own text see
pub right : (disk : Disk) → IsConsistent disk → (refused : Option (ℕ × Text)) → IsSetting (load_setting disk refused)
right disk consistent refused = record { sees = (rightly_seen disk consistent).sees; reads = (rightly_seen disk consistent).reads }
