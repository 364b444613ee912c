use Rattle.std.proofs.Common.{take}
use Rattle.b2_props.specs.Refinement.{defaults}
use Rattle.b2_props.specs.Holding.{Gains}
use Rattle.b2_props.proofs.draft.Draft.add_defaults.Given as goal

-- the defaults of the features so far are added
abbrev pub invariant-loop-place : goal.invariant-loop-place
invariant-loop-place l = Gains l.registry (defaults (take l.place l.registry)) l.fn.self l.self
