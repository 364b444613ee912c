use Rattle.std.proofs.Common.{◌≡◌, ◌++◌, ◌-◌, [], map, reverse, length}
use Rattle.std.specs.Option.{option_map_or}
use Rattle.b2_references.specs.Names.{lineage, lineage_in}
use Rattle.b2_references.proofs.index.Index.ancestors.Given as goal

-- the projects above those so far, and these
abbrev pub invariant-loop-turn : goal.invariant-loop-turn
invariant-loop-turn l = option_map_or (lineage_in (length l.places - l.turn) l.places) l.next [] ++ reverse (map (λ p. p.now) l.made.items) ≡ lineage l.self l.project
