use Rattle.b2_declaring_calls.proofs.CallsDeclareProperNames.{target_named}
use Rattle.b2_declaring_calls.proofs.laws.targets_have_their_rules.Goals as goal

pub returns : goal.returns
returns c = target_named
