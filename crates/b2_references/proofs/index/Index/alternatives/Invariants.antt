use Rattle.std.proofs.Common.{◌≡◌, take, map}
use Rattle.std.specs.List.{filter_map, slice_get}
use Rattle.b2_references.proofs.index.Index.alternatives.Given as goal

-- the main targets of the numbers so far
abbrev pub invariant-loop-number : goal.invariant-loop-number
invariant-loop-number l = map (λ t. t.now) l.made.items ≡ filter_map (slice_get l.targets) (take l.number-index l.numbers)
