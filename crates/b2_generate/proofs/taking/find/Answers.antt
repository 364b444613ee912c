use Rattle.std.proofs.Common.{refl}
use Rattle.b2_generate.proofs.OlderNodesStay.{node_there}
use Rattle.b2_generate.proofs.taking.find.Goals as goal

pub returns-then-was_asked : goal.returns-then-was_asked
returns-then-was_asked c =
    let both = c.if-was_asked.ensures refl in
    record {
      node = c.in-Some-get.node.now;
      there = node_there c.args.nodes.now c.in-Some.place c.in-Some-get.node.now c.in-Some-get.ensures.lookup.3.0 c.in-Some-get.ensures.lookup.1;
      named = both.0;
      asked = both.1;
    }
