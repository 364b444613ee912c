use Rattle.b2_run_examples.proofs.ScansHold.{scans_hold}
use Rattle.b2_run_examples.proofs.examples.scans_hold.Goals as goal

pub returns : goal.returns
returns c = scans_hold
