use Rattle.std.proofs.Common.{◌≡◌, take, map}
use Rattle.b2_props.specs.Requests.{product}
use Rattle.b2_props.proofs.product.product.Given as goal

-- the product of the factors so far
abbrev pub invariant-loop-factor : goal.invariant-loop-factor
invariant-loop-factor l = map (λ r. r.items) l.rows.items ≡ product (map (λ f. f.choices.items) (take l.factor-index l.factors))
