use Rattle.b2_session_laws.proofs.NothingStartsAgain.{stop_loses_no_work}
use Rattle.b2_session_laws.proofs.neighbours.stop_loses_no_work.Goals as goal

pub returns : goal.returns
returns c = stop_loses_no_work
