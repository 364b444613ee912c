use Rattle.b2_run_examples.proofs.TailedHolds.{tailed_holds}
use Rattle.b2_run_examples.proofs.examples.tailed_holds.Goals as goal

pub returns : goal.returns
returns c = tailed_holds
