use Rattle.std.specs.Prelude.{◌≡◌, ℕ, Result, Ok, Err}
use Rattle.b2_base.specs.Counts.{Rose}
use Rattle.b2_host.specs.declared.fault.Failed.{Failed}
use Rattle.b2_host.specs.declared.fault.IoFault.{IoFault}
use Rattle.b2_host.specs.declared.fault.IoFault.TheVariants as faults

-- a call that failed counted a fault, and no other call did
abbrev pub FaultTold : {T : Type 0} → ℕ → ℕ → Result T Failed → Type 0
FaultTold before after (Ok x) = after ≡ before
FaultTold before after (Err e) = Rose before after

-- the same of a call that may also be out of memory
abbrev pub IoFaultTold : {T : Type 0} → ℕ → ℕ → Result T IoFault → Type 0
IoFaultTold before after (Ok x) = after ≡ before
IoFaultTold before after (Err faults.Failed) = Rose before after
IoFaultTold before after (Err faults.OutOfMemory) = after ≡ before
