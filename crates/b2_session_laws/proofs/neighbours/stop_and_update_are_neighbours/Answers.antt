use Rattle.b2_session_laws.proofs.NeighboursAreFound.{stop_and_update_are_neighbours}
use Rattle.b2_session_laws.proofs.neighbours.stop_and_update_are_neighbours.Goals as goal

pub returns : goal.returns
returns c = stop_and_update_are_neighbours
