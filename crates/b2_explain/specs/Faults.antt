-- Faults, and how the counts of faults stand to them.
use Rattle.std.specs.Prelude.{◌≡◌, true, Result, Ok, Err}
use Rattle.b2_base.specs.Counts.{Rose}
use Rattle.b2_host.specs.declared.fault.IoFault.{IoFault}
use Rattle.b2_host.specs.declared.fault.IoFault.TheVariants as io
use Rattle.b2_host.specs.Outside.{Outside}
use Rattle.b2_host.specs.Output.{Output}
use Rattle.b2_runs.specs.UpdateAnswers.{SinkFailed}
use Rattle.b2_explain.specs.declared.fault.ExplainFault.{ExplainFault}
use Rattle.b2_explain.specs.declared.fault.ExplainFault.TheVariants as explaining
use Rattle.b2_explain.specs.declared.fault.CleanFault.{CleanFault}
use Rattle.b2_explain.specs.declared.fault.CleanFault.TheVariants as cleaning

-- the host's count of faults by a result: it rose where the host failed, which it may, and else it stays
abbrev pub ExplainCounts : {T : Type 0} → Outside → Outside → Result T ExplainFault → Type 0
ExplainCounts before after (Ok x) = after.faults ≡ before.faults
ExplainCounts before after (Err explaining.Host) = (before.risks.may_fail ≡ true) × Rose before.faults after.faults
ExplainCounts before after (Err (explaining.TooBig path size)) = after.faults ≡ before.faults
ExplainCounts before after (Err explaining.OutOfMemory) = after.faults ≡ before.faults

-- a fault of the host as one of cleaning
abbrev pub clean_fault_of : IoFault → CleanFault
clean_fault_of io.Failed = cleaning.Host
clean_fault_of io.OutOfMemory = cleaning.OutOfMemory

-- a fault of the sink as one of cleaning
abbrev pub sink_fault_of : IoFault → CleanFault
sink_fault_of io.Failed = cleaning.Sink
sink_fault_of io.OutOfMemory = cleaning.OutOfMemory

-- both counts of faults by a result: that of the fault rose, and the other stays
abbrev pub CleanCounts : {T : Type 0} → Outside → Output → Outside → Output → Result T CleanFault → Type 0
CleanCounts x before y after (Ok v) = (y.faults ≡ x.faults) × (after.faults ≡ before.faults)
CleanCounts x before y after (Err cleaning.Host) =
    (x.risks.may_fail ≡ true) × Rose x.faults y.faults × (after.faults ≡ before.faults)
CleanCounts x before y after (Err cleaning.Sink) = (y.faults ≡ x.faults) × SinkFailed before after
CleanCounts x before y after (Err cleaning.OutOfMemory) = (y.faults ≡ x.faults) × (after.faults ≡ before.faults)
