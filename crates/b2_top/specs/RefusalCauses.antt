-- Why files and words are refused.
use Rattle.std.specs.Prelude.{◌≡◌, Option, Some, None, List, Err}
use Rattle.b2_host.specs.Disks.{Disk}
use Rattle.jam_journal.specs.Tables.{Text}
use Rattle.jam_effects.specs.Causes.{refused_by}
use Rattle.jam_effects.specs.declared.fault.EvalFault.{EvalFault}
use Rattle.jam_graph.specs.Loading.{refused_in}
use Rattle.b2_project_walk.specs.Faults.{refused_by as load_refused_by}
use Rattle.b2_alternatives.specs.declared.fault.ChoiceFault.{ChoiceFault}
use Rattle.b2_alternatives.specs.declared.fault.ChoiceFault.TheVariants as choosing
use Rattle.b2_making.specs.declared.fault.MakingFault.{MakingFault}
use Rattle.b2_making.specs.declared.fault.MakingFault.TheVariants as making
use Rattle.b2_generate.specs.declared.fault.GenFault.{GenFault}
use Rattle.b2_generate.specs.declared.fault.GenFault.TheVariants as generating
use Rattle.b2_prepare.specs.declared.refusal.PlanStop.TheVariants as stops
use Rattle.b2_prepare.specs.Preparing.{IsPrepared}
use Rattle.b2_refusals.specs.declared.fault.Fault.{Fault}
use Rattle.b2_refusals.specs.declared.fault.Fault.TheVariants as faults
use Rattle.b2_refusals.specs.declared.fault.PlanRefusal.{PlanRefusal}
use Rattle.b2_refusals.specs.declared.fault.PlanRefusal.TheVariants as refusals
use Rattle.b2_top.specs.declared.answer.Answer.{Answer}
use Rattle.b2_top.specs.declared.answer.Answer.TheVariants as answers

-- The fault is what the files of a disk and the free words come to, after these lines of ECHO; that a pattern is refused though it
-- reads as one is an input of it.
abbrev pub HasCause : Disk → List Text → List Text → Fault → Type 0
HasCause disk words echoes (faults.Plan why) = IsPrepared disk words echoes (Err (stops.Refused why))
HasCause disk words echoes (faults.Jam fault) = ⊥
HasCause disk words echoes (faults.StepCycle list) = ⊥
HasCause disk words echoes (faults.TooBig path size) = ⊥

-- ---- the pattern that was refused though it reads as one, where the fault is that

abbrev pub pattern_of_choice : ChoiceFault EvalFault → Option Text
pattern_of_choice (choosing.Eval fault) = refused_by fault
pattern_of_choice _ = None

abbrev pub pattern_of_making : MakingFault EvalFault → Option Text
pattern_of_making (making.Eval fault) = refused_by fault
pattern_of_making _ = None

abbrev pub pattern_of_generation : GenFault EvalFault → Option Text
pattern_of_generation (generating.NotChosen fault) = pattern_of_choice fault
pattern_of_generation (generating.NotMade fault) = pattern_of_making fault
pattern_of_generation _ = None

abbrev pub pattern_of_plan : PlanRefusal → Option Text
pattern_of_plan (refusals.Load fault) = load_refused_by fault
pattern_of_plan (refusals.Request fault) = None
pattern_of_plan (refusals.Generation fault) = pattern_of_generation fault

abbrev pub pattern_of : Fault → Option Text
pattern_of (faults.Plan why) = pattern_of_plan why
pattern_of (faults.Jam fault) = refused_in fault
pattern_of _ = None

abbrev pub IsOfPattern : Fault → Type 0
IsOfPattern fault = (pattern : Text) × (pattern_of fault ≡ Some pattern)

-- the answer is a refusal of a pattern that reads as one, and this is what the files of a disk and the free words come to
abbrev pub IsPatternRefused : Disk → List Text → Answer → Type 0
IsPatternRefused disk words answers.Ok = ⊥
IsPatternRefused disk words (answers.Failed lists) = ⊥
IsPatternRefused disk words (answers.Refused fault) = IsOfPattern fault × ((echoes : List Text) × HasCause disk words echoes fault)
IsPatternRefused disk words answers.Usage = ⊥
IsPatternRefused disk words answers.HostFault = ⊥
IsPatternRefused disk words answers.OutOfMemory = ⊥
IsPatternRefused disk words answers.SinkFault = ⊥
