use Rattle.b2_run_examples.proofs.FailureHolds.{failure_holds}
use Rattle.b2_run_examples.proofs.examples.failure_holds.Goals as goal

pub returns : goal.returns
returns c = failure_holds
