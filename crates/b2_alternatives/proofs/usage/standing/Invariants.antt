use Rattle.std.proofs.Common.{◌≡◌, ◌||◌, not, take, is_some}
use Rattle.std.specs.List.{filter}
use Rattle.std.specs.FinMap as map
use Rattle.b2_features.specs.declared.attribute.Attribute.TheVariants.{Free}
use Rattle.b2_features.specs.Faults.{is_with}
use Rattle.b2_alternatives.proofs.usage.standing.Given as goal

-- those of the pairs so far
abbrev pub invariant-loop-pair : goal.invariant-loop-pair
invariant-loop-pair l = l.made ≡ filter (λ p. is_with Free l.registry p.0 || not (is_some (map.get l.taken p.0))) (take l.pair-index l.level)
