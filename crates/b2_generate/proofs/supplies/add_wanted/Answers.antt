use Rattle.std.proofs.Common.{map, reverse, sym, ◌∙◌}
use Rattle.std.proofs.lemmas.Result.{on_ok_weaker}
use Rattle.b2_generate.specs.Nodes.{entry_in}
use Rattle.b2_generate.proofs.SupplyGathersPartByPart.{gathers_wanted, gathers_unwanted}
use Rattle.b2_generate.proofs.supplies.add_wanted.Goals as goal

pub returns-then-wants : goal.returns-then-wants
returns-then-wants c =
    on_ok_weaker c.add_need.result
    (gathers_wanted c.args.types.now.types (map (entry_in (reverse c.args.nodes.now)) c.args.frame.now.done) c.args.wanted c.args.need.now c.args.gathered.now c.add_need.new.gathered (sym c.wants.ensures ∙ c.if-wants.true))
    c.add_need.ensures

pub returns-else-wants : goal.returns-else-wants
returns-else-wants c =
    gathers_unwanted c.args.types.now.types (map (entry_in (reverse c.args.nodes.now)) c.args.frame.now.done) c.args.wanted c.args.need.now c.args.gathered.now (sym c.wants.ensures ∙ c.if-wants.false)
