use Rattle.b2_run_examples.proofs.CirclingHolds.{circling_holds}
use Rattle.b2_run_examples.proofs.examples.circling_holds.Goals as goal

pub returns : goal.returns
returns c = circling_holds
