use Rattle.b2_run_examples.proofs.OverlapHolds.{overlap_holds}
use Rattle.b2_run_examples.proofs.examples.overlap_holds.Goals as goal

pub returns : goal.returns
returns c = overlap_holds
