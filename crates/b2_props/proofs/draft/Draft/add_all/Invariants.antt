use Rattle.std.proofs.Common.{take}
use Rattle.b2_props.specs.Holding.{Gains}
use Rattle.b2_props.proofs.draft.Draft.add_all.Given as goal

-- the pairs so far are added
abbrev pub invariant-loop-pair : goal.invariant-loop-pair
invariant-loop-pair l = Gains l.registry (take l.pair-index l.pairs) l.fn.self l.self
