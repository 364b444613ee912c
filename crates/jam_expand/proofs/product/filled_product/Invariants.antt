use Rattle.std.proofs.Common.{vec_len}
use Rattle.jam_expand.proofs.ProductGrowsFromLastList.{HasMade}
use Rattle.jam_expand.proofs.product.filled_product.Given as goal

abbrev pub invariant-lists : goal.invariant-lists
invariant-lists l = HasMade l.fn.lists.items l.lists.items l.made l.before

abbrev pub decreases-lists : goal.decreases-lists
decreases-lists l = vec_len l.lists
