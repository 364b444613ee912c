use Rattle.b2_session_laws.proofs.StopsKeepRecords.{stop_keeps}
use Rattle.b2_session_laws.proofs.stops.stop_keeps.Goals as goal

pub returns : goal.returns
returns c = stop_keeps c.one_meaning.ensures c.one_meaning-2.ensures
