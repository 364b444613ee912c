use Rattle.b2_reach.specs.Reaches.{IsMissingMember}
use Rattle.b2_explain.proofs.ChecksAreTold.{any_is}
use Rattle.b2_explain.proofs.checks.any_missing.Goals as goal

pub returns : goal.returns
returns c = let f = c.args.facts.now in any_is f (IsMissingMember f c.args.members.now) c.first_missing.result c.is_some.result c.is_some.ensures c.first_missing.ensures
