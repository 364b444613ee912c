-- Why work on files stopped, and how the host's count of faults stands to it.
use Rattle.std.specs.Prelude.{◌≡◌, ℕ, true, Result, Ok, Err}
use Rattle.b2_base.specs.Counts.{Rose}
use Rattle.b2_host.specs.declared.fault.IoFault.{IoFault}
use Rattle.b2_host.specs.declared.fault.IoFault.TheVariants as io
use Rattle.b2_host.specs.Outside.{Outside}
use Rattle.b2_facts.specs.declared.fault.ReadFault.{ReadFault}
use Rattle.b2_facts.specs.declared.fault.ReadFault.TheVariants as faults
use Rattle.b2_facts.specs.declared.stop.FilesStop.{FilesStop}
use Rattle.b2_facts.specs.declared.stop.FilesStop.TheVariants as stops

-- what a fault of the host stops with
abbrev pub stop_of_io : IoFault → FilesStop
stop_of_io io.Failed = stops.Host
stop_of_io io.OutOfMemory = stops.OutOfMemory

-- what work stops with where the file with a number was not read
abbrev pub stop_of_read : ReadFault → ℕ → FilesStop
stop_of_read faults.Failed number = stops.Host
stop_of_read faults.OutOfMemory number = stops.OutOfMemory
stop_of_read (faults.TooBig size) number = stops.TooBig number size

-- the host's count of faults by a result: it rose where the host failed, which it may, and else it stays
abbrev pub StopTold : {T : Type 0} → Outside → Outside → Result T FilesStop → Type 0
StopTold before after (Ok x) = after.faults ≡ before.faults
StopTold before after (Err stops.Host) = (before.risks.may_fail ≡ true) × Rose before.faults after.faults
StopTold before after (Err stops.OutOfMemory) = after.faults ≡ before.faults
StopTold before after (Err (stops.TooBig number size)) = after.faults ≡ before.faults
