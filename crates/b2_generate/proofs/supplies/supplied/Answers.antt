use Rattle.std.proofs.Common.{◌++◌, [], map, reverse, ap₂, ◌∙◌}
use Rattle.b2_generate.specs.Nodes.{entry_in}
use Rattle.b2_generate.specs.Supplies.{supplied}
use Rattle.b2_generate.specs.Gathering.{named_by}
use Rattle.b2_generate.proofs.SupplyGathersPartByPart.{gathers_all}
use Rattle.b2_generate.proofs.supplies.supplied.Goals as goal

pub returns : goal.returns
returns c =
    gathers_all c.args.types.now.types (map (entry_in (reverse c.args.nodes.now)) c.args.frame.now.done) c.args.wanted c.sources.result.now c.properties.result.now (record { made = c.new.result; seen = c.new-2.result })
    c.add_needs.new.gathered c.add_needs-2.new.gathered c.new.ensures c.new-2.ensures c.in_ok-add_needs.ensures c.in_ok-add_needs-2.ensures
    ∙ ap₂ (λ xs ys. supplied c.args.types.now.types (map (entry_in (reverse c.args.nodes.now)) c.args.frame.now.done) [] (named_by c.args.wanted (xs ++ ys))) c.sources.ensures c.properties.ensures
