use Rattle.std.proofs.Common.{◌≡◌, take}
use Rattle.b2_props.proofs.product.longer.Given as goal

-- the choices so far
abbrev pub invariant-loop-earlier : goal.invariant-loop-earlier
invariant-loop-earlier l = l.made.items ≡ take l.earlier-index l.row
