-- The walk of a drill.
use Rattle.std.specs.Prelude.{ℕ, List, [], ◌∷◌}
use Rattle.b2_drill_load.specs.Evaluated.{at_last}
use Rattle.b2_drill_project.specs.Project.{drill_visit, drill_calls}
use Rattle.b2_project_walk.specs.Walks.{Walk}
use Rattle.jam_meaning.specs.States.{with_world}
use Rattle.jam_scope.specs.Changes.{freeze_roots}

-- the whole walk, after which so many turns are left
abbrev pub drill_walk : List ℕ → ℕ → Walk
drill_walk lines left = record { visits = drill_visit ∷ []; calls = drill_calls lines; named = []; state = with_world freeze_roots (at_last lines left) }
