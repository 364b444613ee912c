use Rattle.std.proofs.Common.{◌≡◌, take, map}
use Rattle.b2_props.proofs.request.row_set.Given as goal

-- the pairs of the choices so far
abbrev pub invariant-loop-choice : goal.invariant-loop-choice
invariant-loop-choice l = l.pairs.items ≡ map (λ c. c.pair) (take l.choice-index l.row)
