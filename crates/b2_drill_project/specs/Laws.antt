-- What the load of a drill comes to.
use Rattle.std.specs.Prelude.{◌≡◌, ℕ, suc, ◌+◌, ◌≤◌, List, [], ◌∷◌, length, codes, Ok}
use Rattle.b2_drill_text.specs.Trees.{drill_tree}
use Rattle.b2_drill_project.specs.Project.{drill_visit, drill_calls, drill_project}
use Rattle.b2_drill_project.specs.Loaded.{drill_walk}
use Rattle.b2_declared.specs.Declaring.{declared}
use Rattle.b2_project.specs.Loads.{loaded, Loads}
use Rattle.jam_meaning.specs.Settings.{is_file, Setting}
use Rattle.jam_natives.specs.Keeping.{Kept}
use Rattle.jam_natives.specs.Rows.{jam_meaning}

abbrev pub DrillDeclares : Type 0
DrillDeclares = (lines : List ℕ) → length lines ≤ 2000 → declared (drill_visit ∷ []) (drill_calls lines) ≡ Ok (drill_project lines)

-- Where `Jamroot` reads as the tree of at most 2,000 targets, the load ends well, whatever else the setting says.
abbrev pub DrillLoads : Type 0
DrillLoads =
    (setting : Setting Kept) (line left : ℕ) (lines : List ℕ) → setting.natives ≡ jam_meaning → setting.reading (codes "Jamroot") ≡ is_file (drill_tree line lines)
    → length lines ≤ 2000 → Loads setting (suc (length lines + length lines + left)) [] (loaded (drill_walk lines left) (drill_project lines))
