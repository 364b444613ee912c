use Rattle.b2_runs.proofs.LogTellsOthers.{scans_once}
use Rattle.b2_runs.proofs.log_follows_events.scans_once.Goals as goal

pub returns : goal.returns
returns c = scans_once
