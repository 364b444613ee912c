use Rattle.b2_reach.specs.Reaches.{IsMissingMember}
use Rattle.b2_explain.proofs.ChecksAreTold.{first_is, first_none_is}
use Rattle.b2_explain.proofs.checks.is_first_missing.Goals as goal

pub returns-in-Some : goal.returns-in-Some
returns-in-Some c =
    let f = c.args.facts.now in
    first_is f (IsMissingMember f c.args.members.now) c.in-Some.number c.path.result.now c.args.path.now c.eq.result c.eq.ensures c.path.ensures c.in-Some.ensures.1

pub returns-in-None : goal.returns-in-None
returns-in-None c = let f = c.args.facts.now in first_none_is f (IsMissingMember f c.args.members.now) c.args.path.now c.in-None.ensures
