use Rattle.b2_verdicts.proofs.MissingFiles.{missing_is_gone}
use Rattle.b2_verdicts.proofs.laws.missing_is_gone.Goals as goal

pub returns : goal.returns
returns c = missing_is_gone
