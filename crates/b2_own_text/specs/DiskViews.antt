-- How evaluation sees a disk.
use Rattle.std.specs.Prelude.{ℕ, Bool, Some, None}
use Rattle.std.specs.Str.{chars}
use Rattle.b2_host.specs.Disks.{Disk}
use Rattle.jam_journal.specs.Tables.{Text}
use Rattle.jam_meaning.specs.Settings.{Sight, Setting}
use Rattle.jam_natives.specs.Keeping.{Kept}
use Rattle.jam_natives.specs.Rows.{jam_meaning}
use Rattle.b2_sight_laws.proofs.EveryMatchIsDecided.{match_told}
use Rattle.b2_own_text.specs.Names.{names_in}
use Rattle.b2_own_text.specs.Readings.{reads}
use Rattle.b2_own_text.specs.Turns.{turns}

-- whether a pattern matches a text, as it is decided
abbrev pub matching : Text → Text → Bool
matching pattern text = (match_told (chars text) (chars pattern)).0

abbrev pub sight_of : Disk → Sight
sight_of disk = record { folder = disk.now; names = names_in disk; matching = matching }

-- each evaluation has these turns; the files are those of the disk, each as it reads; no pattern is refused that reads as one
abbrev pub setting_of : Disk → Setting Kept
setting_of disk = record { budget = turns; natives = jam_meaning; sight = sight_of disk; reading = λ path. (reads disk.now path).0; refused = None }

-- the same where the call with so many turns left has this pattern, which is refused although it reads as one
abbrev pub refusing : Disk → ℕ → Text → Setting Kept
refusing disk left pattern = record (setting_of disk) { refused = Some (left, pattern) }
