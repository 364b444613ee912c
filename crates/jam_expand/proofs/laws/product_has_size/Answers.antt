use Rattle.jam_expand.proofs.SizesOfListsMultiply.{product_size}
use Rattle.jam_expand.proofs.laws.product_has_size.Goals as goal

pub returns : goal.returns
returns c = product_size
