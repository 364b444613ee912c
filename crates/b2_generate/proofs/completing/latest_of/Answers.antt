use Rattle.std.proofs.Common.{reverse}
use Rattle.b2_generate.proofs.NewNodeIsDatedRightly.{latest_none, latest_next, latest_all}
use Rattle.b2_generate.proofs.completing.latest_of.Goals as goal

pub loop-child-init : goal.loop-child-init
loop-child-init c = latest_none (reverse c.args.nodes.now) c.args.first

pub loop-child-preserved : goal.loop-child-preserved
loop-child-preserved c =
    latest_next (reverse c.args.nodes.now) c.args.children.now c.loop-child.child-index c.args.first c.loop-child.latest c.later-latest.result c.loop-child-test.true c.loop-child.invariant c.later-latest.ensures.own
    c.later-latest.ensures.other

pub returns : goal.returns
returns c = latest_all (reverse c.args.nodes.now) c.args.children.now c.loop-child.child-index c.args.first c.loop-child.latest c.loop-child-test.false c.loop-child.invariant
