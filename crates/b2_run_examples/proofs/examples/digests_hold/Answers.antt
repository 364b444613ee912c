use Rattle.b2_run_examples.proofs.DigestsHold.{digests_hold}
use Rattle.b2_run_examples.proofs.examples.digests_hold.Goals as goal

pub returns : goal.returns
returns c = digests_hold
