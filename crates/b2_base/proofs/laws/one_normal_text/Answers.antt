use Rattle.b2_base.proofs.BeginningTellsWhatIsUnder.{one_text}
use Rattle.b2_base.proofs.laws.one_normal_text.Goals as goal

pub returns : goal.returns
returns c = one_text
