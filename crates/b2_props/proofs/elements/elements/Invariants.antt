use Rattle.std.proofs.Common.{◌≡◌, map, take}
use Rattle.std.specs.List.{filter}
use Rattle.b2_props.specs.Elements.{shows, element}
use Rattle.b2_props.proofs.elements.elements.Given as goal

-- the elements of the pairs so far
abbrev pub invariant-loop-pair : goal.invariant-loop-pair
invariant-loop-pair l = l.found.items ≡ map (element l.registry) (filter (shows l.registry l.set) (take l.pair-index l.set))
