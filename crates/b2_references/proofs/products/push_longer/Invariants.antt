use Rattle.std.proofs.Common.{◌≡◌, ◌++◌, ◌∷◌, [], map, take}
use Rattle.b2_references.proofs.products.push_longer.Given as goal

-- a row for each of the pairs so far
abbrev pub invariant-loop-pair : goal.invariant-loop-pair
invariant-loop-pair l = l.rows ≡ l.initial.rows ++ map (λ pair. l.row ++ pair ∷ []) (take l.pair-index l.pairs)
