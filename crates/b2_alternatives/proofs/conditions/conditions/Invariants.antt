use Rattle.std.proofs.Common.{◌≡◌, map, take}
use Rattle.b2_alternatives.specs.Choosing.{condition}
use Rattle.b2_alternatives.proofs.conditions.conditions.Given as goal

-- the conditions so far
abbrev pub invariant-loop-target : goal.invariant-loop-target
invariant-loop-target l = l.made ≡ map (λ t. condition l.registry t.now) (take l.target-index l.alternatives)
