use Rattle.std.proofs.Common.{◌∙◌, ◌==◌, ◌||◌, ◌&&◌, ap}
use Rattle.b2_base.specs.Numbers.{is_among}
use Rattle.b2_generators.specs.Places.{gives_at}
use Rattle.b2_generators.specs.Layers.{stock}
use Rattle.b2_generators.proofs.StocksFollowAddsAndMoves.{stock_none, place_none, place_next}
use Rattle.b2_generators.proofs.givers.givers.Goals as goal

pub loop-place-init : goal.loop-place-init
loop-place-init c place type = ap (λ m. is_among (stock m type) place) c.new-givers.ensures ∙ ap (λ ps. is_among ps place) (stock_none type) ∙ place_none c.args.generators.now c.args.set.now place type

pub loop-place-preserved : goal.loop-place-preserved
loop-place-preserved c place type =
    c.in_ok-add_generator.ensures type place
    ∙ ap (λ b. b || (c.loop-place.place == place && gives_at c.args.generators.now c.args.set.now c.loop-place.place type)) (c.loop-place.invariant place type)
    ∙ place_next c.args.generators.now c.args.set.now c.loop-place.place place type
