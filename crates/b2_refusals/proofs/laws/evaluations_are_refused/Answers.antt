use Rattle.b2_refusals.proofs.FailuresAreRefusals as by
use Rattle.b2_refusals.proofs.laws.evaluations_are_refused.Goals as goal

pub returns : goal.returns
returns c = by.evaluations_are_refused
