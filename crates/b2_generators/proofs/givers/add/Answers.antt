use Rattle.b2_generators.proofs.StocksFollowAddsAndMoves.{stock_add}
use Rattle.b2_generators.proofs.givers.add.Goals as goal

pub returns : goal.returns
returns c = stock_add c.args.givers.now c.take.new.givers c.set.new.self c.args.target.now c.in_ok-places.places c.push.new.self c.args.place c.in_ok-places.ensures.taken c.in_ok-places.ensures.left c.in_ok-push.ensures.ok c.set.ensures
