use Rattle.std.proofs.Common.{map, reverse}
use Rattle.b2_generate.specs.Nodes.{entry_in}
use Rattle.b2_generate.proofs.SupplyGathersPartByPart.{gathers_none, gathers_name, gathers_names}
use Rattle.b2_generate.proofs.supplies.add_targets.Goals as goal

pub loop-name-init : goal.loop-name-init
loop-name-init c = gathers_none c.args.types.now.types (map (entry_in (reverse c.args.nodes.now)) c.args.frame.now.done) c.args.gathered.now

pub loop-name-preserved : goal.loop-name-preserved
loop-name-preserved c =
    gathers_name c.args.types.now.types (map (entry_in (reverse c.args.nodes.now)) c.args.frame.now.done) c.args.names.now c.loop-name.name-index c.name-item.result c.args.gathered.now c.loop-name.gathered
    c.add_target.new.gathered c.loop-name-test.true c.name-item.is c.loop-name.invariant c.in_ok-add_target.ensures

pub returns : goal.returns
returns c =
    gathers_names c.args.types.now.types (map (entry_in (reverse c.args.nodes.now)) c.args.frame.now.done) c.args.names.now c.loop-name.name-index c.args.gathered.now c.loop-name.gathered c.loop-name-test.false
    c.loop-name.invariant
