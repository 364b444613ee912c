use Rattle.b2_run_examples.proofs.FlagsHold.{flags_hold}
use Rattle.b2_run_examples.proofs.examples.flags_hold.Goals as goal

pub returns : goal.returns
returns c = flags_hold
