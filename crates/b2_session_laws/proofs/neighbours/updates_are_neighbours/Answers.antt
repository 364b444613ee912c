use Rattle.b2_session_laws.proofs.NeighboursAreFound.{updates_are_neighbours}
use Rattle.b2_session_laws.proofs.neighbours.updates_are_neighbours.Goals as goal

pub returns : goal.returns
returns c = updates_are_neighbours
