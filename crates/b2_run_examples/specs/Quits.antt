use Rattle.std.specs.Prelude.{true, false, List, [], ◌∷◌}
use Rattle.b2_host.specs.declared.children.ChildEvent.{ChildEvent}
use Rattle.b2_host.specs.declared.children.ChildEvent.TheVariants.{Start, Done}
use Rattle.b2_runs.specs.Staleness.{Update}
use Rattle.b2_runs.specs.Runs.{IsRun}
use Rattle.b2_runs.specs.Outcomes.{NoneStuck}
use Rattle.b2_runs.specs.Reports.{AreLists}
use Rattle.b2_run_examples.specs.Overlap.{two_at_once}

-- the three copies, one at a time; the update is to quit at a failure
abbrev pub quitting : Update
quitting = record two_at_once { quit = true; jobs = 1 }

-- the first child fails
abbrev pub quit_run : List ChildEvent
quit_run = Start 1 ∷ Done 1 false ∷ []

-- With that the run is whole: the second step, which could start, is skipped, and so is the third. Where the update is not to
-- quit, the run is not whole.
pub record QuitHolds : Type 0 where
  pub run : IsRun quitting quit_run
  pub lists : AreLists quitting quit_run (record { failed = 1 ∷ []; skipped = 2 ∷ 3 ∷ []; missing = [] })
  pub none_stuck : NoneStuck quitting quit_run
  pub not_whole : ¬ IsRun (record quitting { quit = false }) quit_run
