use Rattle.b2_runs.proofs.NoneIsLeftOut.{none_to_migrate}
use Rattle.b2_runs.proofs.log_follows_events.none_to_migrate.Goals as goal

pub returns : goal.returns
returns c = none_to_migrate
