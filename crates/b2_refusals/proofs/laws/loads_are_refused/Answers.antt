use Rattle.b2_refusals.proofs.FailuresAreRefusals as by
use Rattle.b2_refusals.proofs.laws.loads_are_refused.Goals as goal

pub returns : goal.returns
returns c = by.loads_are_refused
