use Rattle.b2_virtual.proofs.MapHoldsExactlyTheOutputs.{apart}
use Rattle.b2_virtual.proofs.builder.Builder.into_steps.Goals as goal

pub returns-clause-once : goal.returns-clause-once
returns-clause-once c = c.self.invariant.once

pub returns-clause-apart : goal.returns-clause-apart
returns-clause-apart c = apart c.self.inside.steps c.self.inside.numbers c.self.invariant

pub returns-clause-few : goal.returns-clause-few
returns-clause-few c = c.self.invariant.few
