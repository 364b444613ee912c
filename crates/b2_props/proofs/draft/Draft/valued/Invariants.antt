use Rattle.std.proofs.Common.{◌≡◌, take}
use Rattle.std.specs.List.{filter_map}
use Rattle.std.specs.FinMap as map
use Rattle.b2_props.specs.Sets.{pair_of}
use Rattle.b2_props.proofs.draft.Draft.valued.Given as goal

-- the pairs of the features so far
abbrev pub invariant-loop-place : goal.invariant-loop-place
invariant-loop-place l = l.made.items ≡ filter_map (pair_of (map.get l.self.values)) (take l.place l.registry)
