use Rattle.std.proofs.Common.{◌≡◌, take}
use Rattle.std.specs.List.{flat_map}
use Rattle.b2_alternatives.proofs.conditions.inherited.Given as goal

-- the requirements of the projects so far
abbrev pub invariant-loop-place : goal.invariant-loop-place
invariant-loop-place l = l.made ≡ flat_map (λ p. p.now.requirements) (take l.place-index l.places)
