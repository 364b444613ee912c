use Rattle.std.proofs.Common.{◌≡◌, take}
use Rattle.b2_references.specs.Requests.{choosable}
use Rattle.b2_references.proofs.default_sets.choosable.Given as goal

-- those of the pairs so far
abbrev pub invariant-loop-pair : goal.invariant-loop-pair
invariant-loop-pair l = l.made ≡ choosable l.registry l.set (take l.pair-index l.pairs)
