use Rattle.b2_runs.proofs.LogStaysTrue.{log_moves}
use Rattle.b2_runs.proofs.log_follows_events.log_moves.Goals as goal

pub returns : goal.returns
returns c = log_moves
