use Rattle.std.proofs.Common.{◌∙◌, ap, ◌+◌, length, take}
use Rattle.jam_expand.specs.Heads.{heads}
use Rattle.jam_expand.proofs.ProductGrowsFromLastList.{heads_more}
use Rattle.jam_expand.proofs.product.heads_len.Goals as goal

pub loop-list-preserved : goal.loop-list-preserved
loop-list-preserved c =
    c.in-Some.ensures.1 ∙ ap (λ n. n + c.head_len.result) c.loop-list.invariant ∙ ap (λ n. length (heads (take c.loop-list.list-index c.args.lists.now)) + n) c.head_len.ensures
    ∙ heads_more c.args.lists.now c.loop-list.list-index c.list-item.result c.loop-list-test.true c.list-item.is
