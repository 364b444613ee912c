-- What evaluation works on, as data.
use Rattle.std.specs.Prelude.{◌≡◌, ℕ, Option, Some}
use Rattle.std.specs.Option.{option_map}
use Rattle.b2_host.specs.Disks.{Folder, Disk}
use Rattle.b2_host.specs.Outside.{Outside}
use Rattle.jam_scope.specs.Worlds.{Worlds}
use Rattle.jam_meaning.specs.States.{State}
use Rattle.jam_meaning.specs.Settings.{Meaning, Setting, IsSetting}
use Rattle.jam_effects.specs.declared.turns.Turns.{Turns}

-- the worlds; the turns that are left, and those that there were at first; what the natives keep, and what they mean, where
-- that is told; and the outside
pub record Machine (R : Type 0) : Type 0 where
  pub worlds : Worlds
  pub left : ℕ
  pub budget : ℕ
  pub kept : R
  pub meaning : Option (Meaning R)
  pub outside : Outside

abbrev pub machine : {R : Type 0} → Worlds → Turns → R → Option (Meaning R) → Outside → Machine R
machine worlds turns kept meaning outside =
    record { worlds = worlds; left = turns.left; budget = turns.budget; kept = kept; meaning = meaning; outside = outside }

abbrev pub state_of : {R : Type 0} → Machine R → State R
state_of m = record { worlds = m.worlds; left = m.left; kept = m.kept }

-- what stands at each path, where files are visible
abbrev pub folder_of : Option Disk → Option Folder
folder_of = option_map (λ disk. disk.now)

-- The setting says what is so: the turns before any was taken, what the natives mean, what the visible files hold and how they
-- read, and which patterns match.
pub record IsSettingOf {R : Type 0} (setting : Setting R) (m : Machine R) : Type 0 where
  pub budget : m.budget ≡ setting.budget
  pub natives : m.meaning ≡ Some setting.natives
  pub folder : folder_of m.outside.disk ≡ Some setting.sight.folder
  pub right : IsSetting setting
