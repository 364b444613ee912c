use Rattle.std.proofs.Common.{◌≡◌, drop, map}
use Rattle.b2_references.specs.Names.{first_list}
use Rattle.b2_references.proofs.lookups.first_of_places.Given as goal

-- those so far have none
abbrev pub invariant-loop-place : goal.invariant-loop-place
invariant-loop-place l = first_list (map (λ p. p.now.defaults) (drop l.place-index l.places)) ≡ first_list (map (λ p. p.now.defaults) l.places)
