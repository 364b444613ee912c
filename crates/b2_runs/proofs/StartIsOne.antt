use Rattle.std.proofs.Common.{◌<◌, arith}
use Rattle.b2_runs.specs.CompleteLaws.{StartIsOne, StartsComeFirst}

-- the lowest step that can start is one
pub start_is_one : StartIsOne
start_is_one u events i k may_i may_k = grind (arith, lower, higher)
  where
    lower : i < k → ⊥
    lower less = may_k.1 i less may_i.0

    higher : k < i → ⊥
    higher less = may_i.1 k less may_k.0

pub starts_come_first : StartsComeFirst
starts_come_first u events i k well may_start may_end = may_end.1 i may_start.0
