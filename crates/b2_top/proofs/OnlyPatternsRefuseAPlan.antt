-- Where there is a plan, only a pattern can have been refused.
use Rattle.std.proofs.Common.{◌≡◌, ◌≢◌, ℕ, is_some, Option, Some, None, List, Result, Ok, Err, refl, subst}
use Rattle.std.specs.Option.{option_map}
use Rattle.b2_host.specs.Disks.{Disk}
use Rattle.jam_journal.specs.Tables.{Text}
use Rattle.jam_effects.specs.Causes.{refused_by}
use Rattle.jam_effects.specs.declared.fault.EvalFault.{EvalFault}
use Rattle.jam_effects.specs.declared.fault.EvalFault.TheVariants as evaluating
use Rattle.b2_props.specs.declared.request_fault.RequestFault.{RequestFault}
use Rattle.b2_props.specs.declared.request_fault.RequestFault.TheVariants as asking
use Rattle.b2_alternatives.specs.declared.fault.ChoiceFault.{ChoiceFault}
use Rattle.b2_alternatives.specs.declared.fault.ChoiceFault.TheVariants as choosing
use Rattle.b2_making.specs.Faults as made
use Rattle.b2_making.specs.declared.fault.MakingFault.{MakingFault}
use Rattle.b2_making.specs.declared.fault.MakingFault.TheVariants as making
use Rattle.b2_project_walk.specs.Faults.{refusal_of as load_refusal, refused_by as load_refused_by}
use Rattle.b2_project_walk.specs.Walks.{Refusal as LoadRefusal}
use Rattle.b2_project_walk.specs.declared.fault.LoadFault.{LoadFault}
use Rattle.b2_generate.specs.Faults.{Fault as Generating, no_target, target_cycle, usage_conflict, not_chosen, not_made}
use Rattle.b2_generate.specs.Planning.{Planned}
use Rattle.b2_generate.specs.ToldOutcomes.{unless}
use Rattle.b2_generate.specs.declared.fault.GenFault.{GenFault}
use Rattle.b2_generate.specs.declared.fault.GenFault.TheVariants as generating
use Rattle.b2_prepare.specs.Laws.{OneMeaning}
use Rattle.b2_prepare.specs.Meaning.{Refusal as Why, of_load, of_request, of_generation, IsRefusedInGeneration, Means}
use Rattle.b2_prepare.specs.Preparing.{IfRefusal, IfOfGeneration, IsPrepared, call_of}
use Rattle.b2_prepare.specs.Refusals.{refusal_of}
use Rattle.b2_prepare.specs.declared.refusal.PlanStop.TheVariants as stops
use Rattle.b2_refusals.proofs.FailuresAreRefusals.{load_found}
use Rattle.b2_refusals.specs.Wholes.{IsChoiceRefusal, IsMakingRefusal, IsGenRefusal, IsPlanRefusal}
use Rattle.b2_refusals.specs.declared.fault.Fault.TheVariants as faults
use Rattle.b2_refusals.specs.declared.fault.PlanRefusal.{PlanRefusal}
use Rattle.b2_refusals.specs.declared.fault.PlanRefusal.TheVariants as refusals
use Rattle.b2_top.specs.declared.answer.Answer.TheVariants as answers
use Rattle.b2_top.specs.RefusalCauses.{pattern_of_choice, pattern_of_making, pattern_of_generation, IsPatternRefused}

module _ (law : OneMeaning) (disk : Disk) (words echoes others : List Text) (planned : Planned) (means : Means disk None words echoes (Ok planned)) where
  -- what is told of a refusal
  abbrev IsTold : Option Text → Why → Type 0
  IsTold pattern found = (left : ℕ) × Means disk (call_of left pattern) words others (Err found)

  -- what is told of a pattern that is refused in generation
  abbrev IsRefused : EvalFault → Type 0
  IsRefused = IsRefusedInGeneration disk words others

  abbrev IsToldOf : GenFault EvalFault → Type 0
  IsToldOf fault = IfRefusal (IfOfGeneration IsRefused (refusals.Generation fault)) (refusal_of (refusals.Generation fault)) (IsTold None)

  no_refusal : (found : Why) → IsTold None found → ⊥
  no_refusal found told = let e : ◌≡◌ {A = Result Planned Why} (Ok planned) (Err found) = (law disk None words echoes others (Ok planned) (Err found) means told.1).1 in cc

  by_pattern : (pattern : Option Text) (found : Why) → IsTold pattern found → (p : Text) × (pattern ≡ Some p)
  by_pattern None found told = absurd (no_refusal found told)
  by_pattern (Some p) found told = (p, refl)

  by_load : (fault : LoadFault) → (why : LoadRefusal) × (load_refusal fault ≡ Some why) → IfRefusal (Unit {0}) (option_map of_load (load_refusal fault)) (IsTold (load_refused_by fault)) → (p : Text) × (load_refused_by fault ≡ Some p)
  by_load fault found told = by_pattern (load_refused_by fault) (of_load found.0) (subst (λ o. IfRefusal (Unit {0}) (option_map of_load o) (IsTold (load_refused_by fault))) found.1 told)

  by_request : (fault : RequestFault) → fault ≢ asking.OutOfMemory → IfRefusal (Unit {0}) (refusal_of (refusals.Request fault)) (IsTold None) → ⊥
  by_request (asking.UnknownWord word) h told = no_refusal (of_request (asking.UnknownWord word)) told
  by_request (asking.UnknownValue word) h told = no_refusal (of_request (asking.UnknownValue word)) told
  by_request (asking.Conflict word) h told = no_refusal (of_request (asking.Conflict word)) told
  by_request asking.OutOfMemory h told = h refl

  by_evaluation : (Rest : Type 0) (refused : Option Text) (fault : Generating EvalFault) → IfRefusal Rest (option_map of_generation (unless (is_some refused) (is_some refused) fault)) (IsTold None) → (p : Text) × (refused ≡ Some p)
  by_evaluation Rest None fault told = absurd (no_refusal (of_generation fault) told)
  by_evaluation Rest (Some p) fault told = (p, refl)

  by_choice : (fault : ChoiceFault EvalFault) → IsChoiceRefusal fault → IsToldOf (generating.NotChosen fault)
      → (p : Text) × (pattern_of_choice fault ≡ Some p)
  by_choice (choosing.NoAlternative target set) h told = absurd (no_refusal (of_generation (not_chosen (choosing.NoAlternative target set))) told)
  by_choice (choosing.AmbiguousAlternative target set i k) h told = absurd (no_refusal (of_generation (not_chosen (choosing.AmbiguousAlternative target set i k))) told)
  by_choice (choosing.Unstable target first second) h told = absurd (no_refusal (of_generation (not_chosen (choosing.Unstable target first second))) told)
  by_choice (choosing.BadAnswer target rule word) h told = absurd (no_refusal (of_generation (not_chosen (choosing.BadAnswer target rule word))) told)
  by_choice (choosing.Eval evaluating.Host) h told = absurd h
  by_choice (choosing.Eval evaluating.OutOfMemory) h told = absurd h
  by_choice (choosing.Eval (evaluating.At path line why)) h told =
      by_evaluation (IsRefused (evaluating.At path line why)) (refused_by (evaluating.At path line why)) (not_chosen (choosing.Eval (evaluating.At path line why))) told
  by_choice choosing.OutOfMemory h told = absurd h

  by_making : (fault : MakingFault EvalFault) → IsMakingRefusal fault → IsToldOf (generating.NotMade fault)
      → (p : Text) × (pattern_of_making fault ≡ Some p)
  by_making (making.NoChain from to) h told = absurd (no_refusal (of_generation (not_made (made.no_chain from to))) told)
  by_making (making.TwoChains from to first second) h told = absurd (no_refusal (of_generation (not_made (made.two_chains from to first second))) told)
  by_making (making.PathClash path) h told = absurd (no_refusal (of_generation (not_made (made.path_clash path))) told)
  by_making (making.LocationOutside path) h told = absurd (no_refusal (of_generation (not_made (made.location_outside path))) told)
  by_making (making.TooManySteps count) h told = absurd (no_refusal (of_generation (not_made (made.too_many_steps count))) told)
  by_making (making.Eval evaluating.Host) h told = absurd h
  by_making (making.Eval evaluating.OutOfMemory) h told = absurd h
  by_making (making.Eval (evaluating.At path line why)) h told =
      by_evaluation (IsRefused (evaluating.At path line why)) (refused_by (evaluating.At path line why)) (not_made (made.eval (evaluating.At path line why))) told
  by_making making.OutOfMemory h told = absurd h

  by_generation : (fault : GenFault EvalFault) → IsGenRefusal fault → IsToldOf fault
      → (p : Text) × (pattern_of_generation fault ≡ Some p)
  by_generation (generating.NoTarget name) h told = absurd (no_refusal (of_generation (no_target name)) told)
  by_generation (generating.TargetCycle targets) h told = absurd (no_refusal (of_generation (target_cycle targets)) told)
  by_generation (generating.UsageConflict target feature first second) h told = absurd (no_refusal (of_generation (usage_conflict target feature first second)) told)
  by_generation (generating.NotChosen fault) h told = by_choice fault h told
  by_generation (generating.NotMade fault) h told = by_making fault h told
  by_generation generating.OutOfMemory h told = absurd h

  pub pattern_refused : (why : PlanRefusal) → IsPlanRefusal why → IsPrepared disk words others (Err (stops.Refused why)) → IsPatternRefused disk words (answers.Refused (faults.Plan why))
  pattern_refused (refusals.Load fault) h told = (by_load fault (load_found fault h) told, (others, told))
  pattern_refused (refusals.Request fault) h told = absurd (by_request fault h told)
  pattern_refused (refusals.Generation fault) h told = (by_generation fault h told, (others, told))
