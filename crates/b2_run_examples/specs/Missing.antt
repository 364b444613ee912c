use Rattle.std.specs.Prelude.{ℕ, List, [], ◌∷◌, codes}
use Rattle.b2_plan.specs.Plans.{Apart}
use Rattle.b2_runs.specs.Staleness.{Update}
use Rattle.b2_runs.specs.Runs.{IsRun}
use Rattle.b2_runs.specs.Outcomes.{NoneStuck, AllWent}
use Rattle.b2_runs.specs.OutcomeLaws.{ReachesLost}
use Rattle.b2_runs.specs.Reports.{Lists, AreLists}
use Rattle.b2_run_examples.specs.Examples.{update_from}

-- a path that stands nowhere and that no step makes
abbrev pub gone_path : List ℕ
gone_path = codes "gone"

-- the update of the plan that copies it to `bin/out`
abbrev pub lacking : Update
lacking = update_from (gone_path ∷ [])

abbrev pub lacking_lists : Lists
lacking_lists = record { failed = []; skipped = 1 ∷ []; missing = gone_path ∷ [] }

-- Its run without events is whole: the path is missing, and the step is skipped, for it reaches it.
pub record MissingHolds : Type 0 where
  pub apart : Apart lacking.build.steps lacking.build.roots
  pub run : IsRun lacking []
  pub lists : AreLists lacking [] lacking_lists
  pub reaches : ReachesLost lacking [] 1
  pub none_stuck : NoneStuck lacking []
  pub not_went : ¬ AllWent lacking []
