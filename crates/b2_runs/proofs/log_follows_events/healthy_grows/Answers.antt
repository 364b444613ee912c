use Rattle.b2_runs.proofs.CutLogIsTrue.{healthy_grows}
use Rattle.b2_runs.proofs.log_follows_events.healthy_grows.Goals as goal

pub returns : goal.returns
returns c = healthy_grows
