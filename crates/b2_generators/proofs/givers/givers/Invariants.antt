use Rattle.std.proofs.Common.{◌≡◌, ◌&&◌, ℕ, List}
use Rattle.std.specs.Prelude.{nat_lt}
use Rattle.b2_base.specs.Numbers.{is_among}
use Rattle.b2_generators.specs.Places.{gives_at}
use Rattle.b2_generators.specs.Layers.{stock}
use Rattle.b2_generators.proofs.givers.givers.Given as goal

-- the generators so far stand at the types that they give
abbrev pub invariant-loop-place : goal.invariant-loop-place
invariant-loop-place l = (place : ℕ) (type : List ℕ) → is_among (stock l.givers type) place ≡ (nat_lt place l.place && gives_at l.generators l.set place type)
