use Rattle.std.proofs.Common.{◌≡◌, take}
use Rattle.b2_props.specs.Elements.{propagated}
use Rattle.b2_props.proofs.elements.propagated.Given as goal

-- the propagated ones of the pairs so far
abbrev pub invariant-loop-pair : goal.invariant-loop-pair
invariant-loop-pair l = l.pairs.items ≡ propagated l.registry (take l.pair-index l.set)
