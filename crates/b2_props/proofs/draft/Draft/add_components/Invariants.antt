use Rattle.std.proofs.Common.{take}
use Rattle.b2_props.specs.Refinement.{components}
use Rattle.b2_props.specs.Holding.{Gains}
use Rattle.b2_props.proofs.draft.Draft.add_components.Given as goal

-- the components of the pairs so far are added
abbrev pub invariant-loop-pair : goal.invariant-loop-pair
invariant-loop-pair l = Gains l.registry (components l.registry (take l.pair-index l.pairs)) l.fn.self l.self
