use Rattle.std.proofs.Common.{◌∙◌, ◌++◌, ◌∷◌, [], List, ap, sym, map}
use Rattle.b2_props.specs.Sets.{Pair}
use Rattle.b2_references.proofs.LoopsTakeOneMore.{flat_next}
use Rattle.b2_references.proofs.products.grown.Goals as goal

pub loop-row-preserved : goal.loop-row-preserved
loop-row-preserved c =
    c.in_ok-push_longer.ensures ∙ ap (λ (rows : List (List Pair)). rows ++ map (λ pair. c.row-item.result ++ pair ∷ []) c.args.pairs.now) c.loop-row.invariant
    ∙ sym (flat_next c.args.rows.now c.loop-row.row-index c.row-item.result c.loop-row-test.true c.row-item.is (λ (row : List Pair). map (λ pair. row ++ pair ∷ []) c.args.pairs.now))
