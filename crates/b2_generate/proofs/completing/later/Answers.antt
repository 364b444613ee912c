use Rattle.b2_generate.proofs.NewNodeIsDatedRightly.{latest_there, latest_past}
use Rattle.b2_generate.proofs.completing.later.Goals as goal

pub returns-in-Some-clause-other : goal.returns-in-Some-clause-other
returns-in-Some-clause-other c = latest_there c.args.nodes.now c.args.place.now c.in-Some.node.now c.larger.result c.in-Some.ensures.lookup.3.0 c.in-Some.ensures.lookup.1 c.larger.ensures.second

pub returns-in-None-clause-other : goal.returns-in-None-clause-other
returns-in-None-clause-other c = latest_past c.args.nodes.now c.args.place.now c.args.latest c.in-None.ensures.lookup.3
