use Rattle.std.proofs.Common.{◌++◌, ◌∙◌, ap}
use Rattle.b2_generators.proofs.StocksFollowAddsAndMoves.{moved_one}
use Rattle.b2_generators.proofs.givers.move_givers.Goals as goal

pub returns : goal.returns
returns c = moved_one c.args.givers.now c.take.new.givers c.args.target.now c.in_ok-taken.taken c.args.places.now c.append.new.places c.in_ok-taken.ensures.taken c.in_ok-taken.ensures.left (c.in_ok-append.ensures ∙ ap (λ more. c.args.places.now ++ more) c.as_slice.ensures)
