use Rattle.b2_journal.proofs.FailedCallsAreCuts.{opening_is_cut}
use Rattle.b2_journal.proofs.laws.opening_is_cut.Goals as goal

pub returns : goal.returns
returns c = opening_is_cut
