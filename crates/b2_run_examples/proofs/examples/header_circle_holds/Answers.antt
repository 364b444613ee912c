use Rattle.b2_run_examples.proofs.HeaderPlacesHold.{header_circle_holds}
use Rattle.b2_run_examples.proofs.examples.header_circle_holds.Goals as goal

pub returns : goal.returns
returns c = header_circle_holds
