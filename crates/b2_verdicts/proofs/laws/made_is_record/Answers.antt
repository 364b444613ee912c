use Rattle.b2_verdicts.proofs.VerdictsTell.{made_is_record}
use Rattle.b2_verdicts.proofs.laws.made_is_record.Goals as goal

pub returns : goal.returns
returns c = made_is_record
