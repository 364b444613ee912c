use Rattle.std.proofs.Common.{◌≡◌, List, take, map}
use Rattle.b2_props.specs.Sets.{Pair}
use Rattle.b2_props.specs.Indexing.{IsIndexOf}
use Rattle.b2_alternatives.specs.Usage.{usage_in}
use Rattle.b2_alternatives.proofs.usage.levels.Given as goal

-- what the projects so far give
abbrev pub invariant-loop-place : goal.invariant-loop-place
invariant-loop-place l = (set : List Pair) → IsIndexOf set l.index → l.made ≡ map (λ p. usage_in set p.now.usage) (take l.place-index l.places)
