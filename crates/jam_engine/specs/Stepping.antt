-- How steps are made and join one another.
use Rattle.std.specs.Prelude.{◌≡◌, ◌≢◌, Bool, true, List, [], ◌∷◌, ◌++◌, Option, Some, None, Result, Ok, Err, length, map as each, not, if◌then◌else◌}
use Rattle.std.specs.List.{AllByRecursion, find, flat_map, list_any, list_all}
use Rattle.std.specs.Option.{option_map_or}
use Rattle.b2_plan.specs.declared.step.Step.{Step}
use Rattle.b2_plan.specs.Sources.{IsInRoots}
use Rattle.b2_virtual.specs.Clashes.{IsFirstClash, Fits}
use Rattle.jam_journal.specs.Tables.{Text}
use Rattle.jam_journal.specs.Scopes.{Value}
use Rattle.jam_scope.specs.Worlds.{World}
use Rattle.jam_natives.specs.Texts.{without_repeats}
use Rattle.jam_graph.specs.declared.fault.JamFault.{JamFault}
use Rattle.jam_graph.specs.declared.fault.JamFault.TheVariants as faults
use Rattle.jam_graph.specs.declared.graph.Act.{Act}
use Rattle.jam_graph.specs.declared.graph.Graph.{Graph}
use Rattle.jam_graph.specs.Loads.{Refusal}
use Rattle.jam_graph.specs.Loading.{refusal_of}
use Rattle.jam_engine.specs.declared.scene.Scene.{Scene}
use Rattle.jam_engine.specs.Acts.{is_quiet_in}
use Rattle.jam_engine.specs.Tables.{is_in, IsScene}
use Rattle.jam_engine.specs.Targets.{header_dirs_in, place, depends_of}
use Rattle.jam_engine.specs.Spreading.{SpreadsTo}
use Rattle.jam_engine.specs.Steps.{most_steps, Refuses, Accepts, IsStep, first_mixed, are_in_roots}
use Rattle.jam_engine.specs.Plans.{Joins}

-- the first target that is no file, where another is one
abbrev pub first_mixed_in : Scene → Value → Option Text
first_mixed_in scene targets = if list_all (is_in scene.index.notfile) targets then None else find (is_in scene.index.notfile) targets

-- targets of which some are files and some are not are refused by it
abbrev pub IsMixedBy : Scene → Value → Result (Unit {0}) JamFault → Type 0
IsMixedBy scene targets (Ok u) = first_mixed_in scene targets ≡ None
IsMixedBy scene targets (Err (faults.MixedNotFile target)) = first_mixed_in scene targets ≡ Some target
IsMixedBy scene targets (Err faults.OutOfMemory) = Unit {0}
IsMixedBy scene targets (Err _) = ⊥

-- the name of the first act that is not quiet
abbrev pub name_in : World → List Act → Text
name_in w set = option_map_or (λ (a : Act). a.name) (find (λ a. not (is_quiet_in w a)) set) []

-- where headers are looked for, by the first of some targets
abbrev pub header_dirs_of : World → Value → List Text
header_dirs_of w [] = []
header_dirs_of w (first ∷ more) = header_dirs_in w first

-- the step of a set of acts with these targets and this text
pub record IsMadeStep (g : Graph) (scene : Scene) (set : List Act) (targets : Value) (text : Text) (step : Step) : Type 0 where
  pub name : step.name ≡ name_in g.world.now set
  pub text_is : step.text ≡ text
  pub outs : (stands : Text → Bool) → IsScene g stands scene → step.outs ≡ without_repeats (each (place g stands) targets)
  pub ins : (stands : Text → Bool) → IsScene g stands scene → SpreadsTo g stands (flat_map (λ (a : Act). a.sources) set ++ flat_map (depends_of g) targets) step.ins
  pub dirs : step.dirs ≡ header_dirs_of g.world.now targets
  pub always : step.always ≡ list_any (is_in scene.index.always) targets
  pub notfile : step.notfile ≡ list_all (is_in scene.index.notfile) targets

-- what a set comes to behind steps of which there are not too many; nothing is said of out of memory
abbrev pub IsRefusedFor : Graph → (Text → Bool) → List Act → Option Refusal → Type 0
IsRefusedFor g stands set None = Unit {0}
IsRefusedFor g stands set (Some why) = (steps : List Step) → length steps ≢ most_steps → Refuses g stands steps set why

abbrev pub IsStepFor : Graph → (Text → Bool) → List Act → Result Step JamFault → Type 0
IsStepFor g stands set (Ok step) = IsStep g stands set step × (first_mixed g stands set ≡ None) × (are_in_roots g stands set ≡ true)
IsStepFor g stands set (Err faults.Host) = ⊥
IsStepFor g stands set (Err fault) = IsRefusedFor g stands set (refusal_of fault)

abbrev pub StepsTo : Graph → Scene → List Act → Result Step JamFault → Type 0
StepsTo g scene set result = (stands : Text → Bool) → IsScene g stands scene → IsStepFor g stands set result

-- each step has an output, and each output lies under a root
abbrev pub ArePlaced : List Text → List Step → Type 0
ArePlaced roots steps = AllByRecursion (λ (step : Step). (step.outs ≢ []) × AllByRecursion (IsInRoots roots) step.outs) steps

-- a step joins the others where it fits, or clashes
abbrev pub JoinsOne : List Step → Step → List Step → Result (Unit {0}) JamFault → Type 0
JoinsOne steps step after (Ok u) = (after ≡ steps ++ step ∷ []) × Fits steps step
JoinsOne steps step after (Err (faults.PathClash path)) = IsFirstClash steps step path
JoinsOne steps step after (Err faults.OutOfMemory) = Unit {0}
JoinsOne steps step after (Err _) = ⊥

-- the step of a set joins the others, or is refused
abbrev pub IsRefusedBehind : Graph → (Text → Bool) → List Step → List Act → Option Refusal → Type 0
IsRefusedBehind g stands steps set None = Unit {0}
IsRefusedBehind g stands steps set (Some why) = Refuses g stands steps set why

abbrev pub IsJoined : Graph → (Text → Bool) → List Step → List Act → List Step → Result (Unit {0}) JamFault → Type 0
IsJoined g stands steps set after (Ok u) = (step : Step) × Accepts g stands steps set step × (after ≡ steps ++ step ∷ [])
IsJoined g stands steps set after (Err faults.Host) = ⊥
IsJoined g stands steps set after (Err fault) = IsRefusedBehind g stands steps set (refusal_of fault)

abbrev pub JoinsBy : Graph → Scene → List Step → List Act → List Step → Result (Unit {0}) JamFault → Type 0
JoinsBy g scene steps set after result = (stands : Text → Bool) → IsScene g stands scene → IsJoined g stands steps set after result

-- the steps of all sets, or the first refusal
abbrev pub IsStopped : Graph → (Text → Bool) → List (List Act) → Option Refusal → Type 0
IsStopped g stands sets None = Unit {0}
IsStopped g stands sets (Some why) = Joins g stands [] sets (Err why)

abbrev pub AreStepsFor : Graph → (Text → Bool) → List (List Act) → Result (List Step) JamFault → Type 0
AreStepsFor g stands sets (Ok steps) = Joins g stands [] sets (Ok steps)
AreStepsFor g stands sets (Err faults.Host) = ⊥
AreStepsFor g stands sets (Err fault) = IsStopped g stands sets (refusal_of fault)

abbrev pub AreSteps : Graph → Scene → List (List Act) → Result (List Step) JamFault → Type 0
AreSteps g scene sets result = (stands : Text → Bool) → IsScene g stands scene → AreStepsFor g stands sets result
