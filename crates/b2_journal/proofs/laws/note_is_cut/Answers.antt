use Rattle.b2_journal.proofs.FailedCallsAreCuts.{note_is_cut}
use Rattle.b2_journal.proofs.laws.note_is_cut.Goals as goal

pub returns : goal.returns
returns c = note_is_cut
