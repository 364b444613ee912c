use Rattle.b2_runs.proofs.NextStartsNoMore.{none_done_starts_again}
use Rattle.b2_runs.proofs.next_starts_no_more.none_done_starts_again.Goals as goal

pub returns : goal.returns
returns c = none_done_starts_again
