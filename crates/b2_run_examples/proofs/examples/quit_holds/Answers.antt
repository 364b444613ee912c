use Rattle.b2_run_examples.proofs.QuitHolds.{quit_holds}
use Rattle.b2_run_examples.proofs.examples.quit_holds.Goals as goal

pub returns : goal.returns
returns c = quit_holds
