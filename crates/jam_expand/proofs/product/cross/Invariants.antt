use Rattle.std.proofs.Common.{◌≡◌, take}
use Rattle.jam_expand.specs.Products.{cross}
use Rattle.jam_expand.proofs.product.cross.Given as goal

abbrev pub invariant-loop-text : goal.invariant-loop-text
invariant-loop-text l = l.made ≡ cross (take l.text-index l.texts) l.others
