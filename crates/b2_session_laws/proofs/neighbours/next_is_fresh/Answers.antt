use Rattle.b2_session_laws.proofs.NothingStartsAgain.{next_is_fresh}
use Rattle.b2_session_laws.proofs.neighbours.next_is_fresh.Goals as goal

pub returns : goal.returns
returns c = next_is_fresh
