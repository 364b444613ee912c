use Rattle.std.proofs.Common.{take}
use Rattle.b2_references.specs.Grouping.{AreGroups}
use Rattle.b2_references.proofs.groups.by_feature.Given as goal

-- the pairs so far are grouped
abbrev pub invariant-loop-pair : goal.invariant-loop-pair
invariant-loop-pair l = AreGroups (take l.pair-index l.pairs) l.groups
