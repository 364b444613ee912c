use Rattle.b2_verdicts.proofs.VerdictsTell.{verdict_tells}
use Rattle.b2_verdicts.proofs.laws.verdict_tells.Goals as goal

pub returns : goal.returns
returns c = verdict_tells
