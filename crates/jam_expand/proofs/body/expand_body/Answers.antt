use Rattle.std.proofs.Common.{subst}
use Rattle.jam_expand.specs.Limits.{IsGivenBy}
use Rattle.jam_expand.proofs.PlainBodyIsItself.{body_is_itself}
use Rattle.jam_expand.proofs.body.expand_body.Goals as goal

pub returns-clause-itself : goal.returns-clause-itself
returns-clause-itself g c = λ all small. subst (IsGivenBy c.expanded.result) (body_is_itself (g.L.Look.answer c.args.look.now) c.args.body.now all small) c.expanded.ensures
