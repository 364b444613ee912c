use Rattle.std.proofs.Common.{◌≡◌, not, take, is_some}
use Rattle.std.specs.List.{filter}
use Rattle.std.specs.FinMap as map
use Rattle.b2_property_texts.proofs.missing.others.Given as goal

-- those of the pairs so far
abbrev pub invariant-loop-pair : goal.invariant-loop-pair
invariant-loop-pair l = l.made ≡ filter (λ p. not (is_some (map.get l.features p.0))) (take l.pair-index l.pairs)
