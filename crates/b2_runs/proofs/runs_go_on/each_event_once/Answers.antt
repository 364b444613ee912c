use Rattle.b2_runs.proofs.RunGoesOn.{each_event_once}
use Rattle.b2_runs.proofs.runs_go_on.each_event_once.Goals as goal

pub returns : goal.returns
returns c = each_event_once
