use Rattle.b2_session_laws.proofs.NothingStartsAgain.{no_work_is_lost}
use Rattle.b2_session_laws.proofs.neighbours.no_work_is_lost.Goals as goal

pub returns : goal.returns
returns c = no_work_is_lost
