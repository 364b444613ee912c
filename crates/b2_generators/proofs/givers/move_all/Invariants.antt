use Rattle.std.proofs.Common.{take}
use Rattle.b2_generators.specs.Table.{has_text}
use Rattle.b2_generators.specs.Layers.{Moves}
use Rattle.b2_generators.proofs.givers.move_all.Given as goal

-- what stood at the types so far was moved
abbrev pub invariant-loop-target : goal.invariant-loop-target
invariant-loop-target l = Moves (has_text (take l.target-index l.targets)) l.initial.givers l.givers l.initial.places l.places
