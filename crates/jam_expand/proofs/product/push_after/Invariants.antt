use Rattle.std.proofs.Common.{◌≡◌, ◌++◌, take, map}
use Rattle.jam_expand.proofs.product.push_after.Given as goal

abbrev pub invariant-loop-other : goal.invariant-loop-other
invariant-loop-other l = l.made ≡ l.initial.made ++ map (λ other. l.first ++ other) (take l.other-index l.others)
