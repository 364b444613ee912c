use Rattle.b2_testing.proofs.RowsAreLookedUp.{wanted_is}
use Rattle.b2_testing.proofs.requested.Asking.is_wanted.Goals as goal

pub returns : goal.returns
returns c = wanted_is c.find.result c.args.self.now.wanted c.args.path.now c.is_some.result c.find.ensures c.is_some.ensures
