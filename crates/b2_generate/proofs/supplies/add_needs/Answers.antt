use Rattle.std.proofs.Common.{map, reverse}
use Rattle.b2_generate.specs.Nodes.{entry_in}
use Rattle.b2_generate.proofs.SupplyGathersPartByPart.{gathers_none, gathers_need, gathers_needs}
use Rattle.b2_generate.proofs.supplies.add_needs.Goals as goal

pub loop-need-init : goal.loop-need-init
loop-need-init c = gathers_none c.args.types.now.types (map (entry_in (reverse c.args.nodes.now)) c.args.frame.now.done) c.args.gathered.now

pub loop-need-preserved : goal.loop-need-preserved
loop-need-preserved c =
    gathers_need c.args.types.now.types (map (entry_in (reverse c.args.nodes.now)) c.args.frame.now.done) c.args.wanted c.args.needs.now c.loop-need.need-index c.need-item.result c.args.gathered.now c.loop-need.gathered
    c.add_wanted.new.gathered c.loop-need-test.true c.need-item.is c.loop-need.invariant c.in_ok-add_wanted.ensures

pub returns : goal.returns
returns c =
    gathers_needs c.args.types.now.types (map (entry_in (reverse c.args.nodes.now)) c.args.frame.now.done) c.args.wanted c.args.needs.now c.loop-need.need-index c.args.gathered.now c.loop-need.gathered c.loop-need-test.false
    c.loop-need.invariant
