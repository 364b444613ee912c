-- A right setting over a consistent disk.
use Rattle.std.proofs.Common.{◌≡◌, ℕ, Option, Some, None, option_map, refl, sym, ap, ◌∙◌}
use Rattle.b2_host.specs.Disks.{Disk}
use Rattle.jam_journal.specs.Tables.{Text}
use Rattle.jam_meaning.specs.Laws.{SightHasSetting}
use Rattle.jam_meaning.specs.Refused.{Refuses}
use Rattle.jam_meaning.specs.Settings.{Sight, Meaning, refuses, of_arity}
use Rattle.jam_effects.specs.Machines.{folder_of}
use Rattle.jam_natives.specs.Rows.{jam_meaning}
use Rattle.b2_sight_laws.specs.Sights.{CanBeSeen, HasSetting, RunHasSetting, LoadHasSetting}
use Rattle.b2_sight_laws.proofs.SightOfDisk.{has_sight}

-- natives that refuse all
refusing : {X : Type 0} → Meaning X
refusing = record { call = λ name lists line sight refused worlds kept. refuses of_arity worlds kept; acted = λ name lists line worlds kept. refuses of_arity worlds kept }

module _ {X : Type 0} (sight_has_setting : SightHasSetting X) where
  -- how files read is the same whatever natives keep
  pub has_setting : {R : Type 0} → HasSetting R
  has_setting budget natives refused disk consistent =
      let seen : CanBeSeen disk = has_sight disk consistent in
      let read = sight_has_setting 0 refusing None seen.0 seen.1 in
      (seen.0, read.0, seen.2, record { sees = seen.1; reads = read.1.reads })

  -- what names a text that was refused in the last call, or nothing
  abbrev naming : ℕ → Option Text → Option (ℕ × Text)
  naming after = option_map (λ text. (after, text))

  names : (before after : ℕ) (text : Option Text) → Refuses (naming after text) before after text
  names before after None = λ left low high. refl
  names before after (Some text) = refl

  folder_is : (disk : Option Disk) (now : Disk) (sight : Sight) → disk ≡ Some now → sight.folder ≡ now.now → folder_of disk ≡ Some sight.folder
  folder_is disk now sight visible is = ap folder_of visible ∙ ap Some (sym is)

  pub run_has : {R : Type 0} → RunHasSetting R
  run_has m meaning disk after text told visible consistent =
      let s = has_setting m.budget meaning (naming after text) disk consistent in (
        record { budget = m.budget; natives = meaning; sight = s.0; reading = s.1; refused = naming after text },
        record { budget = refl; natives = told; folder = folder_is m.outside.disk disk s.0 visible s.2; right = s.3 },
        names m.left after text,
      )

  pub load_has : LoadHasSetting
  load_has outside disk budget before after text visible consistent =
      let s = has_setting budget jam_meaning (naming after text) disk consistent in (
        record { budget = budget; natives = jam_meaning; sight = s.0; reading = s.1; refused = naming after text },
        record { budget = refl; natives = refl; folder = folder_is outside.disk disk s.0 visible s.2; right = s.3 },
        names before after text,
      )
