use Rattle.b2_run_examples.proofs.HeadersHold.{headers_hold}
use Rattle.b2_run_examples.proofs.examples.headers_hold.Goals as goal

pub returns : goal.returns
returns c = headers_hold
