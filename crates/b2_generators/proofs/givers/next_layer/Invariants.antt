use Rattle.std.proofs.Common.{[], take}
use Rattle.b2_generators.specs.Places.{is_taken_by}
use Rattle.b2_generators.specs.Layers.{Moves}
use Rattle.b2_generators.proofs.givers.next_layer.Given as goal

-- what stood at the types that generators so far take was moved
abbrev pub invariant-loop-place : goal.invariant-loop-place
invariant-loop-place l = Moves (is_taken_by l.generators (take l.place-index l.layer)) l.initial.givers l.givers [] l.next
