use Rattle.std.proofs.Common.{◌≡◌, take}
use Rattle.b2_gcc.specs.Rows.{pairs}
use Rattle.b2_gcc.proofs.owned.owned_pairs.Given as goal

-- the pairs so far
abbrev pub invariant-loop-pair : goal.invariant-loop-pair
invariant-loop-pair l = l.made ≡ pairs (take l.pair-index l.rows)
