-- Why an update stopped, and how the counts of faults stand to it.
use Rattle.std.specs.Prelude.{◌≡◌, ℕ, List, Result, Ok, Err}
use Rattle.b2_host.specs.declared.fault.IoFault.{IoFault}
use Rattle.b2_host.specs.declared.fault.IoFault.TheVariants as io
use Rattle.b2_host.specs.Output.{Output, with_written}
use Rattle.b2_runs.specs.Moments.{Moment}
use Rattle.b2_runs.specs.UpdateAnswers.{CountsStay, CallFailed, SinkFailed}
use Rattle.b2_facts.specs.declared.stop.FilesStop.TheVariants as files
use Rattle.b2_endings.specs.Writings.{AddsPart}
use Rattle.b2_update.specs.declared.stop.UpdateStop.{UpdateStop}
use Rattle.b2_update.specs.declared.stop.UpdateStop.TheVariants as stops

-- what a fault of the host stops an update with
abbrev pub host_stop_of : IoFault → UpdateStop
host_stop_of io.Failed = stops.Files files.Host
host_stop_of io.OutOfMemory = stops.Files files.OutOfMemory

-- what a fault of the sink stops an update with
abbrev pub sink_stop_of : IoFault → UpdateStop
sink_stop_of io.Failed = stops.Sink
sink_stop_of io.OutOfMemory = stops.Files files.OutOfMemory

-- The counts of faults by the stop, which is the first fault: that of the fault rose, which may come, and the others stay. Of
-- the host both may rise, where a wait failed.
abbrev pub StopCausedBy : Moment → Moment → UpdateStop → Type 0
StopCausedBy before after (stops.Files files.Host) =
    CallFailed before.host after.host × (after.out.faults ≡ before.out.faults)
StopCausedBy before after (stops.Files files.OutOfMemory) = CountsStay before after
StopCausedBy before after (stops.Files (files.TooBig number size)) = CountsStay before after
StopCausedBy before after stops.Sink = SinkFailed before.out after.out
    × (after.host.faults ≡ before.host.faults) × (after.host.failed_waits ≡ before.host.failed_waits)

-- A text is written, or a beginning of it, where the sink failed or no memory was left. Whether the sink may fail stays.
abbrev pub SinkSays : {T : Type 0} → List ℕ → Output → Output → Result T UpdateStop → Type 0
SinkSays text before after (Ok x) = after ≡ with_written text before
SinkSays text before after (Err (stops.Files files.Host)) = ⊥
SinkSays text before after (Err (stops.Files files.OutOfMemory)) =
    (after.faults ≡ before.faults) × AddsPart text before.written after.written × (after.may_fail ≡ before.may_fail)
SinkSays text before after (Err (stops.Files (files.TooBig number size))) = ⊥
SinkSays text before after (Err stops.Sink) =
    SinkFailed before after × AddsPart text before.written after.written × (after.may_fail ≡ before.may_fail)
