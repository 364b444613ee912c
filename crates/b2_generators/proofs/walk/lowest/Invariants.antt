use Rattle.std.proofs.Common.{◌&&◌, take}
use Rattle.b2_generators.specs.Places.{takes_any_at}
use Rattle.b2_generators.specs.Descents.{is_above, IsLowest}
use Rattle.b2_generators.proofs.walk.lowest.Given as goal

-- the lowest so far
abbrev pub invariant-loop-place : goal.invariant-loop-place
invariant-loop-place l = IsLowest (λ place. is_above l.bound place && takes_any_at l.generators l.types place) (take l.place-index l.layer) l.found
