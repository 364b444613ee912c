use Rattle.std.proofs.Common.{◌+◌, sym}
use Rattle.std.specs.Option.{option_copied}
use Rattle.b2_making.proofs.NamedOutputReplacesOne.{last_none}
use Rattle.b2_making.proofs.along.Route.named_at.Goals as goal

pub returns-then-place-self : goal.returns-then-place-self
returns-then-place-self c = sym (last_none c.args.self.now.ids.now (c.args.place + 1) (option_copied c.args.self.now.named) c.if-place-self.true)
