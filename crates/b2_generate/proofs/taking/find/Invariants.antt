use Rattle.std.proofs.Common.{suc, ℕ}
use Rattle.std.specs.Option.{option_map_or}
use Rattle.b2_generate.proofs.taking.find.Given as goal

abbrev pub invariant-nodes : goal.invariant-nodes
invariant-nodes l = Unit {0}

abbrev pub decreases-nodes : goal.decreases-nodes
decreases-nodes l = option_map_or (λ (place : ℕ). suc place) l.next 0
