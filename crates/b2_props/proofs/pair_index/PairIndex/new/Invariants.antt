use Rattle.std.proofs.Common.{take}
use Rattle.b2_props.specs.Indexing.{IsIndexOf}
use Rattle.b2_props.proofs.pair_index.PairIndex.new.Given as goal

-- the pairs so far are indexed
abbrev pub invariant-loop-pair : goal.invariant-loop-pair
invariant-loop-pair l = IsIndexOf (take l.pair-index l.pairs) l.index
