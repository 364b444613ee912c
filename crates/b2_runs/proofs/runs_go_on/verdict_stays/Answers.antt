use Rattle.b2_runs.proofs.SettledStays.{verdict_stays}
use Rattle.b2_runs.proofs.runs_go_on.verdict_stays.Goals as goal

pub returns : goal.returns
returns c = verdict_stays
