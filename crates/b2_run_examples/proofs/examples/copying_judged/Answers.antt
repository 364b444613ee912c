use Rattle.b2_run_examples.proofs.CopyingJudged.{copying_judged}
use Rattle.b2_run_examples.proofs.examples.copying_judged.Goals as goal

pub returns : goal.returns
returns c = copying_judged
