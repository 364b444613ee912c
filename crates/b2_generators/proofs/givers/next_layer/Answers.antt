use Rattle.std.proofs.Common.{[], get_or, refl, sym, subst, List, ℕ}
use Rattle.b2_generators.specs.Table.{has_text}
use Rattle.b2_generators.specs.Places.{is_taken_by}
use Rattle.b2_generators.specs.Layers.{Moves}
use Rattle.b2_generators.proofs.StocksFollowAddsAndMoves.{layer_start, layer_more}
use Rattle.b2_generators.proofs.givers.next_layer.Goals as goal

pub loop-place-init : goal.loop-place-init
loop-place-init c = subst (λ (next : List ℕ). Moves (is_taken_by c.args.generators.now []) c.args.givers.now c.args.givers.now [] next) (sym c.new-next.ensures) (layer_start c.args.generators.now c.args.givers.now [])

pub loop-place-preserved : goal.loop-place-preserved
loop-place-preserved c =
    layer_more c.args.generators.now c.args.givers.now c.loop-place.givers c.move_all.new.givers c.args.layer.now c.loop-place.place-index (get_or c.args.layer.now c.loop-place.place-index 0) [] c.loop-place.next c.move_all.new.places c.loop-place-test.true refl c.loop-place.invariant
    (subst (λ (sources : List (List ℕ)). Moves (has_text sources) c.loop-place.givers c.move_all.new.givers c.loop-place.next c.move_all.new.places) c.sources_at.ensures c.in_ok-move_all.ensures)
