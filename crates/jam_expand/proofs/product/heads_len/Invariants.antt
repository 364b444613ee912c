use Rattle.std.proofs.Common.{◌≡◌, length, take}
use Rattle.jam_expand.specs.Heads.{heads}
use Rattle.jam_expand.proofs.product.heads_len.Given as goal

abbrev pub invariant-loop-list : goal.invariant-loop-list
invariant-loop-list l = l.len ≡ length (heads (take l.list-index l.lists))
