use Rattle.b2_declaring_calls.proofs.EmptyLastListsChangeNothing.{trailing_same}
use Rattle.b2_declaring_calls.proofs.laws.trailing_lists_change_nothing.Goals as goal

pub returns : goal.returns
returns c = trailing_same
