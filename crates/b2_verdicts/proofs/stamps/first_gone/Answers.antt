use Rattle.std.proofs.Common.{sym, below_more}
use Rattle.b2_verdicts.proofs.stamps.first_gone.Goals as goal

pub loop-place-preserved : goal.loop-place-preserved
loop-place-preserved c = below_more _ _ c.loop-place.invariant (c.in-Some._stamp, sym c.in-Some.ensures)
