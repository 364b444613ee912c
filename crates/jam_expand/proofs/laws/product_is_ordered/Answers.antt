use Rattle.jam_expand.proofs.SizesOfListsMultiply.{product_at}
use Rattle.jam_expand.proofs.laws.product_is_ordered.Goals as goal

pub returns : goal.returns
returns c = product_at
