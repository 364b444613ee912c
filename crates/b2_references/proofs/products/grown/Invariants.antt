use Rattle.std.proofs.Common.{◌≡◌, ◌++◌, ◌∷◌, [], List, map, take}
use Rattle.std.specs.List.{flat_map}
use Rattle.b2_props.specs.Sets.{Pair}
use Rattle.b2_references.proofs.products.grown.Given as goal

-- the rows so far, each with one pair more
abbrev pub invariant-loop-row : goal.invariant-loop-row
invariant-loop-row l = l.made ≡ flat_map (λ (row : List Pair). map (λ pair. row ++ pair ∷ []) l.pairs) (take l.row-index l.rows)
