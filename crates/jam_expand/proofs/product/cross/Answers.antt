use Rattle.std.proofs.Common.{◌∙◌, ap, ◌++◌, map, List, ℕ}
use Rattle.jam_expand.proofs.ProductGrowsFromLastList.{cross_more}
use Rattle.jam_expand.proofs.product.cross.Goals as goal

pub loop-text-preserved : goal.loop-text-preserved
loop-text-preserved c =
    c.in_ok-push_after.ensures ∙ ap (λ (s : List (List ℕ)). s ++ map (λ other. c.text-item.result ++ other) c.args.others.now) c.loop-text.invariant
    ∙ cross_more c.args.texts.now c.args.others.now c.loop-text.text-index c.text-item.result c.loop-text-test.true c.text-item.is
