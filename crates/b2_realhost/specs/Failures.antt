use Rattle.std.specs.Prelude.{◌≡◌, ℕ}
use Rattle.b2_host.specs.declared.fault.IoFault.{IoFault}
use Rattle.b2_host.specs.declared.fault.IoFault.TheVariants as faults
use Rattle.b2_base.specs.Counts.{Rose}

-- the fault was counted, unless no memory was left
abbrev pub FaultCounted : ℕ → ℕ → IoFault → Type 0
FaultCounted before after faults.Failed = Rose before after
FaultCounted before after faults.OutOfMemory = after ≡ before
