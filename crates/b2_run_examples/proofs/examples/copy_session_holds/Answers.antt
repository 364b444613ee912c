use Rattle.b2_run_examples.proofs.CopySessionHolds.{copy_session_holds}
use Rattle.b2_run_examples.proofs.examples.copy_session_holds.Goals as goal

pub returns : goal.returns
returns c = copy_session_holds
