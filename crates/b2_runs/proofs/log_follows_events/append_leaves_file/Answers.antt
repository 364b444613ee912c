use Rattle.b2_runs.proofs.CutLogIsTrue.{append_leaves_file}
use Rattle.b2_runs.proofs.log_follows_events.append_leaves_file.Goals as goal

pub returns : goal.returns
returns c = append_leaves_file
