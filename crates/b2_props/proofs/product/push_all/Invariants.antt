use Rattle.std.proofs.Common.{◌≡◌, ◌++◌, ◌∷◌, [], take, map}
use Rattle.b2_props.proofs.product.push_all.Given as goal

-- a row for each of the choices so far
abbrev pub invariant-loop-choice : goal.invariant-loop-choice
invariant-loop-choice l = map (λ r. r.items) l.rows.items ≡ map (λ r. r.items) l.initial.rows.items ++ map (λ choice. l.row ++ choice ∷ []) (take l.choice-index l.choices)
