use Rattle.std.proofs.Common.{◌≡◌, map, take}
use Rattle.b2_props.specs.Sets.{set_of}
use Rattle.b2_references.proofs.default_sets.sets_of.Given as goal

-- the sets of the rows so far
abbrev pub invariant-loop-row : goal.invariant-loop-row
invariant-loop-row l = l.made ≡ map (set_of l.registry) (take l.row-index l.rows)
