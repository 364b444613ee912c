use Rattle.b2_runs.proofs.LogStaysTrue.{scans_stay_true}
use Rattle.b2_runs.proofs.log_follows_events.scans_stay_true.Goals as goal

pub returns : goal.returns
returns c = scans_stay_true
