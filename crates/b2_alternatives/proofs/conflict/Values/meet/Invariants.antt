use Rattle.std.proofs.Common.{List}
use Rattle.b2_props.specs.Sets.{Pair}
use Rattle.b2_alternatives.specs.DependencyWork.{AreValues}
use Rattle.b2_alternatives.proofs.ConflictsShowPairByPair.{IsMet}
use Rattle.b2_alternatives.proofs.conflict.Values.meet.Given as goal

-- none of the pairs so far conflicts, and their values are kept
abbrev pub invariant-loop-pair : goal.invariant-loop-pair
invariant-loop-pair l = (before : List Pair) → AreValues before l.fn.self → IsMet l.registry before l.pairs l.pair-index l.self
