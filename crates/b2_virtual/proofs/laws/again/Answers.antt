use Rattle.b2_virtual.proofs.JoinedStepsKeepTheirNumbers.{again_same, again_number, stays_distinct, nothing_else}
use Rattle.b2_virtual.proofs.laws.again.Goals as goal

pub returns-clause-same : goal.returns-clause-same
returns-clause-same c = again_same

pub returns-clause-number : goal.returns-clause-number
returns-clause-number c = again_number

pub returns-clause-nothing_else : goal.returns-clause-nothing_else
returns-clause-nothing_else c = nothing_else

pub returns-clause-once : goal.returns-clause-once
returns-clause-once c = stays_distinct
