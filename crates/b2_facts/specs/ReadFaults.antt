-- Why a file was not read.
use Rattle.b2_host.specs.declared.fault.IoFault.{IoFault}
use Rattle.b2_host.specs.declared.fault.IoFault.TheVariants as io
use Rattle.b2_facts.specs.declared.fault.ReadFault.{ReadFault}
use Rattle.b2_facts.specs.declared.fault.ReadFault.TheVariants as faults

-- the fault of a read, by that of the host
abbrev pub of_io : IoFault → ReadFault
of_io io.Failed = faults.Failed
of_io io.OutOfMemory = faults.OutOfMemory
