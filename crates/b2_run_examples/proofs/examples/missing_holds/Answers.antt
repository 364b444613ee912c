use Rattle.b2_run_examples.proofs.MissingHolds.{missing_holds}
use Rattle.b2_run_examples.proofs.examples.missing_holds.Goals as goal

pub returns : goal.returns
returns c = missing_holds
