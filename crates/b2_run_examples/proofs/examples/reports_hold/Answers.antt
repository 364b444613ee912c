use Rattle.b2_run_examples.proofs.ReportsHold.{reports_hold}
use Rattle.b2_run_examples.proofs.examples.reports_hold.Goals as goal

pub returns : goal.returns
returns c = reports_hold
