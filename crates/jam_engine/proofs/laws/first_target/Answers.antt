use Rattle.jam_engine.proofs.PlansHoldAllActs.{all_is_first}
use Rattle.jam_engine.proofs.laws.first_target.Goals as goal

pub returns : goal.returns
returns c = all_is_first
