use Rattle.std.specs.Prelude.{◌≡◌, ◌≢◌, ℕ, ◌-◌, false, List, [], Some, Result, Ok, Err}
use Rattle.b2_host.specs.declared.fault.IoFault.{IoFault}
use Rattle.b2_host.specs.declared.fault.IoFault.TheVariants as faults
use Rattle.b2_host.specs.Output.{Output, with_written}
use Rattle.b2_memory.specs.Scripts.{raised}
use Rattle.b2_memory.specs.declared.memory_sink.MemorySink.{MemorySink}

-- what a sink in memory is to its callers
abbrev pub sink_output : MemorySink → Output
sink_output sink = record { written = Some sink.bytes.items; faults = sink.faults; may_fail = sink.may_fail }

-- nothing was written, and no write may fail
abbrev pub new_output : Output
new_output = record { written = Some []; faults = 0; may_fail = false }

-- which write is to fail, counted from now on; 0 for none
abbrev pub failing_write : MemorySink → ℕ
failing_write sink = sink.failing

-- how a write leaves what the sink tells: it fails where it is listed, and then leaves no byte
abbrev pub Leaves : {T : Type 0} → List ℕ → ℕ → Output → Output → Result T IoFault → Type 0
Leaves piece failing before after (Ok x) = (failing ≢ 1) × (after ≡ with_written piece before)
Leaves piece failing before after (Err faults.Failed) = (failing ≡ 1) × (after ≡ record before { faults = raised before.faults })
Leaves piece failing before after (Err faults.OutOfMemory) = (failing ≢ 1) × (after ≡ before)

-- A write to a sink in memory. The one that is listed to fail comes one nearer.
pub record SinkWrites {T : Type 0} (piece : List ℕ) (before after : MemorySink) (result : Result T IoFault) : Type 0 where
  pub left : Leaves piece (failing_write before) (sink_output before) (sink_output after) result
  pub counted : failing_write after ≡ failing_write before - 1
