-- What is rightly seen of a disk.
use Rattle.std.specs.Prelude.{◌≡◌, ℕ, Bool, List, Option, Some}
use Rattle.b2_host.specs.Disks.{Disk, IsConsistent}
use Rattle.b2_host.specs.Listings.{IsListed}
use Rattle.b2_host.specs.Outside.{Outside}
use Rattle.jam_journal.specs.Tables.{Text}
use Rattle.jam_meaning.specs.Refused.{Refuses}
use Rattle.jam_meaning.specs.Settings.{Sight, IsSight, Meaning, Reading, Setting, IsSetting, IsMatching}
use Rattle.jam_effects.specs.Machines.{Machine, IsSettingOf}
use Rattle.jam_natives.specs.Keeping.{Kept}
use Rattle.b2_project_walk.specs.Walking.{IsSettingFor}

-- a test is the matching of patterns
abbrev pub HasMatching : Type 0
HasMatching = (matching : Text → Text → Bool) × IsMatching matching

-- each directory of a consistent disk has a listing
abbrev pub HasListing : Type 0
HasListing = (disk : Disk) → IsConsistent disk → (dir : Text) → (names : List Text) × IsListed disk.now dir names

-- of this disk there is a right sight
abbrev pub CanBeSeen : Disk → Type 0
CanBeSeen disk = (sight : Sight) × IsSight sight × (sight.folder ≡ disk.now)

-- of each consistent disk there is a right sight
abbrev pub HasSight : Type 0
HasSight = (disk : Disk) → IsConsistent disk → CanBeSeen disk

-- over each consistent disk there is a right setting, with any turns, any natives and anything refused
abbrev pub HasSetting : Type 0 → Type 0
HasSetting R =
    (budget : ℕ) (natives : Meaning R) (refused : Option (ℕ × Text)) (disk : Disk) → IsConsistent disk
    → (sight : Sight) × (reading : Text → Reading) × (sight.folder ≡ disk.now)
    × IsSetting {R = R} (record { budget = budget; natives = natives; sight = sight; reading = reading; refused = refused })

-- Where evaluation begins with natives that are told and files that are visible, there is a right setting for it that names what was
-- refused in it, if anything was.
abbrev pub RunHasSetting : Type 0 → Type 0
RunHasSetting R =
    (m : Machine R) (meaning : Meaning R) (disk : Disk) (after : ℕ) (text : Option Text)
    → m.meaning ≡ Some meaning → m.outside.disk ≡ Some disk → IsConsistent disk
    → (setting : Setting R) × IsSettingOf setting m × Refuses setting.refused m.left after text

-- the same where a load begins
abbrev pub LoadHasSetting : Type 0
LoadHasSetting =
    (outside : Outside) (disk : Disk) (budget before after : ℕ) (text : Option Text) → outside.disk ≡ Some disk → IsConsistent disk
    → (setting : Setting Kept) × IsSettingFor setting budget outside × Refuses setting.refused before after text
