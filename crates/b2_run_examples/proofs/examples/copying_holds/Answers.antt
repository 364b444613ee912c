use Rattle.b2_run_examples.proofs.CopyingHolds.{copying_holds}
use Rattle.b2_run_examples.proofs.examples.copying_holds.Goals as goal

pub returns : goal.returns
returns c = copying_holds
