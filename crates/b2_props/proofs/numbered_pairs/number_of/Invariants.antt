use Rattle.std.proofs.Common.{◌≡◌, take, fold}
use Rattle.b2_props.specs.Numbers.{with_pair}
use Rattle.b2_props.proofs.numbered_pairs.number_of.Given as goal

-- the number of the pairs so far
abbrev pub invariant-loop-pair : goal.invariant-loop-pair
invariant-loop-pair l = l.number ≡ fold with_pair 0 (take l.pair-index l.pairs)
