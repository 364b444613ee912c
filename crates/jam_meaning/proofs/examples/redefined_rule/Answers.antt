use Rattle.jam_meaning.proofs.CallsHold.{redefined_rule}
use Rattle.jam_meaning.proofs.examples.redefined_rule.Goals as goal

pub returns : goal.returns
returns c = redefined_rule
