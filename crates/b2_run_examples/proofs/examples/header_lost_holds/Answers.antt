use Rattle.b2_run_examples.proofs.HeaderPlacesHold.{header_lost_holds}
use Rattle.b2_run_examples.proofs.examples.header_lost_holds.Goals as goal

pub returns : goal.returns
returns c = header_lost_holds
