use Rattle.b2_runs.proofs.StartIsOne.{starts_come_first}
use Rattle.b2_runs.proofs.nothing_is_left.starts_come_first.Goals as goal

pub returns : goal.returns
returns c = starts_come_first
