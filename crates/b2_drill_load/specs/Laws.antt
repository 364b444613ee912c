-- What the load of a drill comes to.
use Rattle.std.specs.Prelude.{◌≡◌, ℕ, suc, ◌+◌, ◌<◌, ◌≤◌, List, length, codes}
use Rattle.b2_drill_text.specs.Trees.{drill_tree}
use Rattle.b2_base.specs.Segments.{here}
use Rattle.jam_meaning.specs.Eval.{run}
use Rattle.jam_meaning.specs.Rolled.{in_copy, step_text}
use Rattle.jam_meaning.specs.States.{with_world}
use Rattle.jam_scope.specs.Changes.{set_place}
use Rattle.jam_meaning.specs.Outcomes.{gives, in_module}
use Rattle.jam_meaning.specs.Settings.{Setting}
use Rattle.jam_natives.specs.Keeping.{Kept}
use Rattle.jam_natives.specs.Rows.{jam_meaning}
use Rattle.b2_drill_load.specs.Evaluated.{owner, at_first, at_last}
use Rattle.b2_drill_load.specs.Texts.{loaded_worlds, drill_job, drill_answer}

-- The file of at most 2,000 targets runs to its end in its module, whatever else the setting says: it takes a turn for the actions and
-- two for each target.
abbrev pub DrillRuns : Type 0
DrillRuns = (setting : Setting Kept) (line left : ℕ) (lines : List ℕ) → setting.natives ≡ jam_meaning → length lines ≤ 2000
    → in_module owner (λ s. run setting (codes "Jamroot") (drill_tree line lines) s) (at_first (suc (length lines + length lines + left))) ≡ gives tt (at_last lines left)

-- The text of a step is asked for in the worlds that the load leaves, whatever else the setting says, and changes nothing.
abbrev pub StepsHaveTexts : Type 0
StepsHaveTexts = (setting : Setting Kept) (i line left : ℕ) (kept : Kept) → i < 2000
    → in_copy (λ s. step_text setting (drill_job i line) (with_world (set_place here) s)) (record { worlds = loaded_worlds; left = left; kept = kept })
    ≡ gives (drill_answer i) (record { worlds = loaded_worlds; left = left; kept = kept })
