-- What is said of the files that native rules see.
use Rattle.std.specs.Prelude.{◌≡◌, Bool, Option, IfSome}
use Rattle.b2_host.specs.Disks.{Disk}
use Rattle.jam_journal.specs.Tables.{Text}
use Rattle.jam_meaning.specs.Settings.{Sight, IsSight, IsMatching}

-- what holds of the one test that is the matching of patterns
abbrev pub ForMatching : ((Text → Text → Bool) → Type 0) → Type 0
ForMatching P = (matching : Text → Text → Bool) → IsMatching matching → P matching

-- what holds of what is seen of the files, where they are visible
abbrev pub WhereSeen : Option Disk → (Sight → Type 0) → Type 0
WhereSeen disk P = IfSome disk (λ d. (sight : Sight) → IsSight sight → sight.folder ≡ d.now → P sight)
