use Rattle.b2_explain.proofs.CauseTellsStart.{cause_tells_start}
use Rattle.b2_explain.proofs.laws.cause_tells_start.Goals as goal

pub returns : goal.returns
returns c = cause_tells_start
