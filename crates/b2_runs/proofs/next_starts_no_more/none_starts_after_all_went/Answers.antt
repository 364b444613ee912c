use Rattle.b2_runs.proofs.NextStartsNoMore.{none_starts_after_all_went}
use Rattle.b2_runs.proofs.next_starts_no_more.none_starts_after_all_went.Goals as goal

pub returns : goal.returns
returns c = none_starts_after_all_went
