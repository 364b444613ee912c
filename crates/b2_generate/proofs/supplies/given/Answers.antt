use Rattle.std.proofs.Common.{sym, ◌∙◌}
use Rattle.b2_generate.proofs.SupplyGathersPartByPart.{given_none, given_some}
use Rattle.b2_generate.proofs.supplies.given.Goals as goal

pub returns-in-None : goal.returns-in-None
returns-in-None c = given_none _ c.args.frame.now.done c.args.frame.now.places c.args.name.now c.requires (sym c.get.ensures ∙ sym c.copied.ensures ∙ c.in-None.is)

pub returns-in-Some : goal.returns-in-Some
returns-in-Some c =
    c.supply_at.ensures
    ∙ given_some c.args.nodes.now c.args.frame.now.done c.args.frame.now.places c.args.name.now c.in-Some.place c.requires (sym c.get.ensures ∙ sym c.copied.ensures ∙ c.in-Some.is)
