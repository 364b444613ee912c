use Rattle.b2_runs.proofs.CutLogIsTrue.{whole_is_cut}
use Rattle.b2_runs.proofs.log_follows_events.whole_is_cut.Goals as goal

pub returns : goal.returns
returns c = whole_is_cut
