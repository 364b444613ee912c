use Rattle.std.proofs.Common.{◌∙◌, ◌++◌, ◌∷◌, [], List, ap₂, map}
use Rattle.std.specs.List.{flat_map}
use Rattle.b2_props.specs.Sets.{Pair}
use Rattle.b2_references.proofs.LoopsTakeOneMore.{rows_next}
use Rattle.b2_references.proofs.products.rows_after.Goals as goal

pub loop-list-preserved : goal.loop-list-preserved
loop-list-preserved c =
    rows_next c.args.row c.args.lists.now c.loop-list.list-index c.list-item.result c.loop-list.rows c.in_ok-rows.rows c.loop-list-test.true c.list-item.is
    (c.in_ok-rows.ensures ∙ ap₂ (λ (list : List Pair) (rows : List (List Pair)). flat_map (λ (row : List Pair). map (λ pair. row ++ pair ∷ []) list) rows) c.as_slice-in-loop-list.ensures c.as_slice.ensures) c.loop-list.invariant
