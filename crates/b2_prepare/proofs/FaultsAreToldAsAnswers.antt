-- What holds of a fault of a load or of generation is told of its answer, and what follows from it is told too.
use Rattle.std.proofs.Common.{Option, Some, None, Result, Ok, Err}
use Rattle.jam_journal.specs.Tables.{Text}
use Rattle.jam_effects.specs.declared.fault.EvalFault.{EvalFault}
use Rattle.jam_effects.specs.declared.fault.EvalFault.TheVariants as evaluating
use Rattle.b2_alternatives.specs.declared.fault.ChoiceFault.{ChoiceFault}
use Rattle.b2_alternatives.specs.declared.fault.ChoiceFault.TheVariants as choosing
use Rattle.b2_making.specs.declared.fault.MakingFault.{MakingFault}
use Rattle.b2_making.specs.declared.fault.MakingFault.TheVariants as making
use Rattle.b2_project_walk.specs.declared.fault.LoadFault.{LoadFault}
use Rattle.b2_project_walk.specs.declared.fault.LoadFault.TheVariants as loading
use Rattle.b2_project_walk.specs.Faults.{refused_by}
use Rattle.b2_generate.specs.declared.fault.GenFault.{GenFault}
use Rattle.b2_generate.specs.declared.fault.GenFault.TheVariants as generating
use Rattle.b2_request_plan.specs.declared.planned.Planned.{Planned as Made}
use Rattle.b2_generate.specs.Planning.{Planned}
use Rattle.b2_request_plan.specs.Plans.{seen}
use Rattle.b2_generate.specs.ToldOutcomes.{IsKnown}
use Rattle.b2_refusals.specs.declared.fault.PlanRefusal.{PlanRefusal}
use Rattle.b2_refusals.specs.declared.fault.PlanRefusal.TheVariants as refusals
use Rattle.b2_prepare.specs.declared.refusal.PlanStop.{PlanStop}
use Rattle.b2_prepare.specs.declared.refusal.PlanStop.TheVariants as stops
use Rattle.b2_prepare.specs.Meaning.{Refusal}
use Rattle.b2_prepare.specs.Refusals.{refusal_of, pattern_of, stop_of_load, stop_of_choice, stop_of_making, stop_of_generation}
use Rattle.b2_prepare.specs.Preparing.{IsOfChoice, IsOfMaking, IsOfGeneration, IfRefusal, IfOfGeneration, Tells}

-- ---- what holds of a refusal of generation

module _ (R S : EvalFault → Type 0) (follows : (fault : EvalFault) → R fault → S fault) where
  choice_map : (fault : ChoiceFault EvalFault) → IsOfChoice R fault → IsOfChoice S fault
  choice_map (choosing.NoAlternative target set) h = h
  choice_map (choosing.AmbiguousAlternative target set i k) h = h
  choice_map (choosing.Unstable target first second) h = h
  choice_map (choosing.BadAnswer target rule word) h = h
  choice_map (choosing.Eval fault) h = follows fault h
  choice_map choosing.OutOfMemory h = h

  making_map : (fault : MakingFault EvalFault) → IsOfMaking R fault → IsOfMaking S fault
  making_map (making.NoChain source goal) h = h
  making_map (making.TwoChains source goal first second) h = h
  making_map (making.PathClash path) h = h
  making_map (making.LocationOutside path) h = h
  making_map (making.TooManySteps count) h = h
  making_map (making.Eval fault) h = follows fault h
  making_map making.OutOfMemory h = h

  generation_map : (fault : GenFault EvalFault) → IsOfGeneration R fault → IsOfGeneration S fault
  generation_map (generating.NoTarget name) h = h
  generation_map (generating.TargetCycle targets) h = h
  generation_map (generating.UsageConflict target feature first second) h = h
  generation_map (generating.NotChosen fault) h = choice_map fault h
  generation_map (generating.NotMade fault) h = making_map fault h
  generation_map generating.OutOfMemory h = h

  rest_map : (why : PlanRefusal) → IfOfGeneration R why → IfOfGeneration S why
  rest_map (refusals.Load fault) h = tt
  rest_map (refusals.Request fault) h = tt
  rest_map (refusals.Generation fault) h = generation_map fault h

-- it holds of a fault at a line
abbrev pub OfLine : (EvalFault → Type 0) → EvalFault → Type 0
OfLine R evaluating.Host = Unit {0}
OfLine R evaluating.OutOfMemory = Unit {0}
OfLine R (evaluating.At path line cause) = R (evaluating.At path line cause)

module _ (R : EvalFault → Type 0) (P : Option Text → Result Planned Refusal → Type 0) where
  -- ---- faults as answers

  pub load_told : (fault : LoadFault) → IfRefusal (Unit {0}) (refusal_of (refusals.Load fault)) (λ found. P (refused_by fault) (Err found)) → Tells R P (Err (stop_of_load fault))
  load_told loading.Host h = tt
  load_told loading.OutOfMemory h = tt
  load_told loading.NoJamroot h = h
  load_told (loading.NoJamfile dir) h = h
  load_told (loading.TooBig path size) h = h
  load_told (loading.Lex path fault) h = h
  load_told (loading.Syntax path fault) h = h
  load_told (loading.Eval fault) h = h
  load_told (loading.Declaration path rule line) h = h
  load_told (loading.Feature path line fault) h = h

  abbrev IsTold : GenFault EvalFault → Type 0
  IsTold fault = IfRefusal (IsKnown (OfLine R) fault) (refusal_of (refusals.Generation fault)) (λ found. P None (Err found))

  choice_told : (fault : ChoiceFault EvalFault) → IsTold (generating.NotChosen fault) → Tells R P (Err (stop_of_choice fault))
  choice_told (choosing.NoAlternative target set) h = h
  choice_told (choosing.AmbiguousAlternative target set i k) h = h
  choice_told (choosing.Unstable target first second) h = h
  choice_told (choosing.BadAnswer target rule word) h = h
  choice_told (choosing.Eval evaluating.Host) h = tt
  choice_told (choosing.Eval evaluating.OutOfMemory) h = tt
  choice_told (choosing.Eval (evaluating.At path line cause)) h = h
  choice_told choosing.OutOfMemory h = tt

  making_told : (fault : MakingFault EvalFault) → IsTold (generating.NotMade fault) → Tells R P (Err (stop_of_making fault))
  making_told (making.NoChain source goal) h = h
  making_told (making.TwoChains source goal first second) h = h
  making_told (making.PathClash path) h = h
  making_told (making.LocationOutside path) h = h
  making_told (making.TooManySteps count) h = h
  making_told (making.Eval evaluating.Host) h = tt
  making_told (making.Eval evaluating.OutOfMemory) h = tt
  making_told (making.Eval (evaluating.At path line cause)) h = h
  making_told making.OutOfMemory h = tt

  pub generation_told : (fault : GenFault EvalFault) → IsTold fault → Tells R P (Err (stop_of_generation fault))
  generation_told (generating.NoTarget name) h = h
  generation_told (generating.TargetCycle targets) h = h
  generation_told (generating.UsageConflict target feature first second) h = h
  generation_told (generating.NotChosen fault) h = choice_told fault h
  generation_told (generating.NotMade fault) h = making_told fault h
  generation_told generating.OutOfMemory h = tt

  -- what follows from what is told is told too
  pub tells_map : (S : EvalFault → Type 0) (Q : Option Text → Result Planned Refusal → Type 0) → ((fault : EvalFault) → R fault → S fault) → ((pattern : Option Text) (outcome : Result Planned Refusal) → P pattern outcome → Q pattern outcome)
      → (result : Result Made PlanStop) → Tells R P result → Tells S Q result
  tells_map S Q also follows (Ok made) h = follows None (Ok (seen made)) h
  tells_map S Q also follows (Err (stops.Refused why)) h = go (refusal_of why) h
    where
      go : (found : Option Refusal) → IfRefusal (IfOfGeneration R why) found (λ f. P (pattern_of why) (Err f)) → IfRefusal (IfOfGeneration S why) found (λ f. Q (pattern_of why) (Err f))
      go None h = rest_map R S also why h
      go (Some f) h = follows (pattern_of why) (Err f) h
  tells_map S Q also follows (Err stops.HostInLoad) h = tt
  tells_map S Q also follows (Err stops.HostInGeneration) h = tt
  tells_map S Q also follows (Err stops.OutOfMemory) h = tt
