-- A count that is raised goes up by one below its greatest value and stays there; for the counts of faults.
use Rattle.std.proofs.Common.{◌≡◌, ℕ, ◌+◌, ◌-◌, ◌^◌, ◌<◌, min, arith}
use Rattle.b2_base.specs.Counts.{Rose}
use Rattle.b2_memory.specs.Scripts.{raised}

pub raised_is : (count : ℕ) → count < 2 ^ 64 → min (count + 1) (2 ^ 64 - 1) ≡ raised count
raised_is count low = grind arith

-- a count that went up rose
pub rose : (count : ℕ) → Rose count (raised count)
rose count = record { kept = grind arith; more = λ low. grind arith }
