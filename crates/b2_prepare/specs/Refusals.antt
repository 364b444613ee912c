-- Faults of loads, of requests and of generation as refusals of a command.
use Rattle.std.specs.Prelude.{Option, Some, None}
use Rattle.std.specs.Option.{option_map}
use Rattle.jam_journal.specs.Tables.{Text}
use Rattle.jam_effects.specs.declared.fault.EvalFault.{EvalFault}
use Rattle.jam_effects.specs.declared.fault.EvalFault.TheVariants as evaluating
use Rattle.b2_props.specs.declared.request_fault.RequestFault.{RequestFault}
use Rattle.b2_props.specs.declared.request_fault.RequestFault.TheVariants as asking
use Rattle.b2_alternatives.specs.declared.fault.ChoiceFault.{ChoiceFault}
use Rattle.b2_alternatives.specs.declared.fault.ChoiceFault.TheVariants as choosing
use Rattle.b2_making.specs.declared.fault.MakingFault.{MakingFault}
use Rattle.b2_making.specs.declared.fault.MakingFault.TheVariants as making
use Rattle.b2_project_walk.specs.declared.fault.LoadFault.{LoadFault}
use Rattle.b2_project_walk.specs.declared.fault.LoadFault.TheVariants as loading
use Rattle.b2_project_walk.specs.Faults.{refused_by, refusal_of as load_refusal}
use Rattle.b2_generate.specs.declared.fault.GenFault.{GenFault}
use Rattle.b2_generate.specs.declared.fault.GenFault.TheVariants as generating
use Rattle.b2_generate.specs.ToldOutcomes.{fault_of}
use Rattle.b2_own_text.specs.Faults.{is_host_fault, is_out_of_memory}
use Rattle.b2_refusals.specs.declared.fault.PlanRefusal.{PlanRefusal}
use Rattle.b2_refusals.specs.declared.fault.PlanRefusal.TheVariants as refusals
use Rattle.b2_prepare.specs.declared.refusal.PlanStop.{PlanStop}
use Rattle.b2_prepare.specs.declared.refusal.PlanStop.TheVariants as stops
use Rattle.b2_prepare.specs.Meaning as meaning

-- ---- faults as answers: a fault of the host and out of memory stand for themselves, others are refusals

abbrev pub stop_of_load : LoadFault → PlanStop
stop_of_load loading.Host = stops.HostInLoad
stop_of_load loading.OutOfMemory = stops.OutOfMemory
stop_of_load fault = stops.Refused (refusals.Load fault)

abbrev pub stop_of_request : RequestFault → PlanStop
stop_of_request asking.OutOfMemory = stops.OutOfMemory
stop_of_request fault = stops.Refused (refusals.Request fault)

abbrev pub or_stop : EvalFault → PlanRefusal → PlanStop
or_stop evaluating.Host why = stops.HostInGeneration
or_stop evaluating.OutOfMemory why = stops.OutOfMemory
or_stop (evaluating.At path line cause) why = stops.Refused why

abbrev pub stop_of_choice : ChoiceFault EvalFault → PlanStop
stop_of_choice (choosing.Eval fault) = or_stop fault (refusals.Generation (generating.NotChosen (choosing.Eval fault)))
stop_of_choice choosing.OutOfMemory = stops.OutOfMemory
stop_of_choice fault = stops.Refused (refusals.Generation (generating.NotChosen fault))

abbrev pub stop_of_making : MakingFault EvalFault → PlanStop
stop_of_making (making.Eval fault) = or_stop fault (refusals.Generation (generating.NotMade (making.Eval fault)))
stop_of_making making.OutOfMemory = stops.OutOfMemory
stop_of_making fault = stops.Refused (refusals.Generation (generating.NotMade fault))

abbrev pub stop_of_generation : GenFault EvalFault → PlanStop
stop_of_generation (generating.NotChosen fault) = stop_of_choice fault
stop_of_generation (generating.NotMade fault) = stop_of_making fault
stop_of_generation generating.OutOfMemory = stops.OutOfMemory
stop_of_generation fault = stops.Refused (refusals.Generation fault)

-- ---- refusals

-- the refusal of a request as data; none for out of memory
abbrev pub request_refusal : RequestFault → Option meaning.Refusal
request_refusal asking.OutOfMemory = None
request_refusal fault = Some (meaning.of_request fault)

-- the refusal as data; none for a pattern of the project's own text that is refused though it reads as one
abbrev pub refusal_of : PlanRefusal → Option meaning.Refusal
refusal_of (refusals.Load fault) = option_map meaning.of_load (load_refusal fault)
refusal_of (refusals.Request fault) = request_refusal fault
refusal_of (refusals.Generation fault) = option_map meaning.of_generation (fault_of is_host_fault is_out_of_memory fault)

-- the pattern of a project file that was refused though it reads as one
abbrev pub pattern_of : PlanRefusal → Option Text
pattern_of (refusals.Load fault) = refused_by fault
pattern_of (refusals.Request fault) = None
pattern_of (refusals.Generation fault) = None
