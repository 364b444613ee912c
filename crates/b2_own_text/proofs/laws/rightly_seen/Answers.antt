use Rattle.std.proofs.Common.{refl}
use Rattle.b2_own_text.proofs.EvaluationsGiveWhatIsTold.{right}
use Rattle.b2_own_text.proofs.laws.rightly_seen.Goals as goal

pub returns : goal.returns
returns c = λ disk consistent. (right disk consistent, refl)
