use Rattle.b2_explain.proofs.CauseTellsStart.{fresh_is_settled}
use Rattle.b2_explain.proofs.laws.fresh_is_settled.Goals as goal

pub returns : goal.returns
returns c = fresh_is_settled
