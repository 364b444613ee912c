use Rattle.b2_runs.proofs.RoundsAreEnough.{rounds_are_enough}
use Rattle.b2_runs.proofs.clean_build_is_one.rounds_are_enough.Goals as goal

pub returns : goal.returns
returns c = rounds_are_enough
