-- What may stand within a refusal: no fault of the host, and not that memory ran out. These are answers of their own.
use Rattle.std.specs.Prelude.{◌≢◌}
use Rattle.b2_alternatives.specs.declared.fault.ChoiceFault.{ChoiceFault}
use Rattle.b2_alternatives.specs.declared.fault.ChoiceFault.TheVariants as choosing
use Rattle.b2_making.specs.declared.fault.MakingFault.{MakingFault}
use Rattle.b2_making.specs.declared.fault.MakingFault.TheVariants as making
use Rattle.b2_features.specs.declared.fault.FeatureFault.TheVariants as features
use Rattle.b2_generate.specs.declared.fault.GenFault.{GenFault}
use Rattle.b2_generate.specs.declared.fault.GenFault.TheVariants as generating
use Rattle.b2_props.specs.declared.request_fault.RequestFault.TheVariants as requesting
use Rattle.b2_refusals.specs.declared.fault.Fault.{Fault}
use Rattle.b2_refusals.specs.declared.fault.Fault.TheVariants as faults
use Rattle.b2_refusals.specs.declared.fault.PlanRefusal.{PlanRefusal}
use Rattle.b2_refusals.specs.declared.fault.PlanRefusal.TheVariants as refusals
use Rattle.b2_project_walk.specs.declared.fault.LoadFault.{LoadFault}
use Rattle.b2_project_walk.specs.declared.fault.LoadFault.TheVariants as loading
use Rattle.jam_effects.specs.Causes.{cause_of, IsWhole as IsWholeCause}
use Rattle.jam_effects.specs.declared.fault.EvalFault.{EvalFault}
use Rattle.jam_effects.specs.declared.fault.EvalFault.TheVariants as evaluating
use Rattle.jam_graph.specs.declared.fault.JamFault.{JamFault}
use Rattle.jam_graph.specs.declared.fault.JamFault.TheVariants as jam
use Rattle.jam_lexer.specs.declared.fault.LexFault.TheVariants as lexing
use Rattle.jam_parser.specs.declared.fault.SyntaxFault.TheVariants as parsing

abbrev pub IsEvalRefusal : EvalFault → Type 0
IsEvalRefusal evaluating.Host = ⊥
IsEvalRefusal evaluating.OutOfMemory = ⊥
IsEvalRefusal (evaluating.At path number cause) = IsWholeCause (cause_of cause)

abbrev pub IsLoadRefusal : LoadFault → Type 0
IsLoadRefusal loading.Host = ⊥
IsLoadRefusal loading.OutOfMemory = ⊥
IsLoadRefusal (loading.Lex path fault) = fault ≢ lexing.OutOfMemory
IsLoadRefusal (loading.Syntax path fault) = fault ≢ parsing.OutOfMemory
IsLoadRefusal (loading.Eval fault) = IsEvalRefusal fault
IsLoadRefusal (loading.Feature path number fault) = fault ≢ features.OutOfMemory
IsLoadRefusal _ = Unit {0}

abbrev pub IsChoiceRefusal : ChoiceFault EvalFault → Type 0
IsChoiceRefusal choosing.OutOfMemory = ⊥
IsChoiceRefusal (choosing.Eval fault) = IsEvalRefusal fault
IsChoiceRefusal _ = Unit {0}

abbrev pub IsMakingRefusal : MakingFault EvalFault → Type 0
IsMakingRefusal making.OutOfMemory = ⊥
IsMakingRefusal (making.Eval fault) = IsEvalRefusal fault
IsMakingRefusal _ = Unit {0}

abbrev pub IsGenRefusal : GenFault EvalFault → Type 0
IsGenRefusal generating.OutOfMemory = ⊥
IsGenRefusal (generating.NotChosen fault) = IsChoiceRefusal fault
IsGenRefusal (generating.NotMade fault) = IsMakingRefusal fault
IsGenRefusal _ = Unit {0}

abbrev pub IsPlanRefusal : PlanRefusal → Type 0
IsPlanRefusal (refusals.Load fault) = IsLoadRefusal fault
IsPlanRefusal (refusals.Request fault) = fault ≢ requesting.OutOfMemory
IsPlanRefusal (refusals.Generation fault) = IsGenRefusal fault

abbrev pub IsJamRefusal : JamFault → Type 0
IsJamRefusal jam.Host = ⊥
IsJamRefusal jam.OutOfMemory = ⊥
IsJamRefusal (jam.Lex path fault) = fault ≢ lexing.OutOfMemory
IsJamRefusal (jam.Syntax path fault) = fault ≢ parsing.OutOfMemory
IsJamRefusal (jam.Eval fault) = IsEvalRefusal fault
IsJamRefusal _ = Unit {0}

abbrev pub IsWhole : Fault → Type 0
IsWhole (faults.Plan why) = IsPlanRefusal why
IsWhole (faults.Jam fault) = IsJamRefusal fault
IsWhole _ = Unit {0}
