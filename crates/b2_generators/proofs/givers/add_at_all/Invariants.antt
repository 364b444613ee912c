use Rattle.std.proofs.Common.{◌≡◌, ◌==◌, ◌||◌, ◌&&◌, ℕ, List, take}
use Rattle.b2_base.specs.Numbers.{is_among}
use Rattle.b2_generators.specs.Table.{has_text}
use Rattle.b2_generators.specs.Layers.{stock}
use Rattle.b2_generators.proofs.givers.add_at_all.Given as goal

-- the place was added to the types so far
abbrev pub invariant-loop-target : goal.invariant-loop-target
invariant-loop-target l = (type : List ℕ) (p : ℕ) → is_among (stock l.givers type) p ≡ (is_among (stock l.initial.givers type) p || (l.place == p && has_text (take l.target-index l.targets) type))
