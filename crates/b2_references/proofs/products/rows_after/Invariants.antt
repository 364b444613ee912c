use Rattle.std.proofs.Common.{◌≡◌, ◌++◌, map, take}
use Rattle.b2_props.specs.Requests.{product}
use Rattle.b2_references.proofs.products.rows_after.Given as goal

-- the row followed by the pairs of the lists so far
abbrev pub invariant-loop-list : goal.invariant-loop-list
invariant-loop-list l = l.rows ≡ map (λ pairs. l.fn.row ++ pairs) (product (take l.list-index l.lists))
