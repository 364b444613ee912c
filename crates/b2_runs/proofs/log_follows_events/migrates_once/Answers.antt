use Rattle.b2_runs.proofs.LogTellsOthers.{migrates_once}
use Rattle.b2_runs.proofs.log_follows_events.migrates_once.Goals as goal

pub returns : goal.returns
returns c = migrates_once
