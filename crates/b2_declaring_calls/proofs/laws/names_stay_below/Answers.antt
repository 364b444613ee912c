use Rattle.b2_declaring_calls.proofs.CallsDeclareProperNames.{name_below}
use Rattle.b2_declaring_calls.proofs.laws.names_stay_below.Goals as goal

pub returns : goal.returns
returns c = name_below
