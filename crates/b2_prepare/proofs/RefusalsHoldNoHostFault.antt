-- A fault becomes an answer: no refusal holds a host fault or out of memory, and only the host's faults are counted.
use Rattle.std.proofs.Common.{◌≡◌, Bool, true, false, is_some, List, Option, Some, None, Result, Ok, Err, refl}
use Rattle.std.specs.Prelude.{IfErr}
use Rattle.std.specs.Option.{option_map}
use Rattle.b2_host.specs.Outside.{Outside}
use Rattle.jam_journal.specs.Tables.{Text}
use Rattle.jam_effects.specs.Causes.{cause_of, refused_by, HoldsNoMemory}
use Rattle.jam_meaning.specs.Faults.{refused_in}
use Rattle.jam_effects.specs.declared.fault.EvalFault.{EvalFault}
use Rattle.jam_effects.specs.declared.fault.EvalFault.TheVariants as evaluating
use Rattle.b2_props.specs.declared.request_fault.RequestFault.{RequestFault}
use Rattle.b2_props.specs.declared.request_fault.RequestFault.TheVariants as asking
use Rattle.b2_props.specs.Words.{IsBy}
use Rattle.b2_props.specs.Requests.{request_fault}
use Rattle.b2_props.specs.declared.request.Request.{Request}
use Rattle.b2_base.specs.Counts.{IsCounted, CountsFault}
use Rattle.b2_alternatives.specs.declared.fault.ChoiceFault.{ChoiceFault}
use Rattle.b2_alternatives.specs.declared.fault.ChoiceFault.TheVariants as choosing
use Rattle.b2_making.specs.Faults as conversions
use Rattle.b2_making.specs.declared.fault.MakingFault.{MakingFault}
use Rattle.b2_making.specs.declared.fault.MakingFault.TheVariants as making
use Rattle.b2_project_walk.specs.declared.fault.LoadFault.{LoadFault}
use Rattle.b2_project_walk.specs.declared.fault.LoadFault.TheVariants as loading
use Rattle.b2_project_walk.specs.Faults.{IsWhole as IsWholeLoad}
use Rattle.b2_refusals.proofs.FailuresAreRefusals.{loads_are_refused}
use Rattle.b2_project_walk.specs.Finding.{CountsFault as CountsLoad}
use Rattle.b2_generate.specs.declared.fault.GenFault.{GenFault}
use Rattle.b2_generate.specs.declared.fault.GenFault.TheVariants as generating
use Rattle.b2_request_plan.specs.declared.planned.Planned.{Planned as Made}
use Rattle.b2_generate.specs.Faults.{Fault, not_chosen, not_made}
use Rattle.b2_generate.specs.LoadedProjects.{LoadedProject}
use Rattle.b2_generate.specs.Planning.{Plans}
use Rattle.b2_request_plan.specs.Plans.{IsPlanned}
use Rattle.b2_generate.specs.ToldOutcomes.{unless, fault_of, IfFault, IsKnown, is_eval, is_memory}
use Rattle.b2_own_text.specs.Faults.{is_host_fault, is_out_of_memory}
use Rattle.b2_refusals.specs.declared.fault.PlanRefusal.{PlanRefusal}
use Rattle.b2_refusals.specs.declared.fault.PlanRefusal.TheVariants as refusals
use Rattle.b2_prepare.specs.Meaning.{of_generation}
use Rattle.b2_prepare.specs.Refusals.{or_stop, stop_of_load, stop_of_request, stop_of_choice, stop_of_making}
use Rattle.b2_prepare.specs.Preparing.{IfRefusal, Tells, IsWhole, CountsStop, Counts}
use Rattle.b2_prepare.specs.PlanningParts.{planned_or_stop, IsGenerated, IsAsked}
use Rattle.b2_prepare.proofs.FaultsAreToldAsAnswers.{OfLine, generation_told}

-- ---- loads

pub load_whole : (fault : LoadFault) → IsWholeLoad fault → IsWhole (stop_of_load fault)
load_whole loading.Host whole = tt
load_whole loading.OutOfMemory whole = tt
load_whole loading.NoJamroot whole = tt
load_whole (loading.NoJamfile dir) whole = tt
load_whole (loading.TooBig path size) whole = tt
load_whole (loading.Lex path fault) whole = loads_are_refused (loading.Lex path fault) whole (λ is. cc) (λ is. cc)
load_whole (loading.Syntax path fault) whole = loads_are_refused (loading.Syntax path fault) whole (λ is. cc) (λ is. cc)
load_whole (loading.Eval fault) whole = loads_are_refused (loading.Eval fault) whole (λ is. cc) (λ is. cc)
load_whole (loading.Declaration path rule line) whole = tt
load_whole (loading.Feature path line fault) whole = loads_are_refused (loading.Feature path line fault) whole (λ is. cc) (λ is. cc)

pub load_counts : (fault : LoadFault) (from to : Outside) → CountsLoad fault from to → CountsStop (stop_of_load fault) from to
load_counts loading.Host from to h = h
load_counts loading.OutOfMemory from to h = tt
load_counts loading.NoJamroot from to h = h
load_counts (loading.NoJamfile dir) from to h = h
load_counts (loading.TooBig path size) from to h = h
load_counts (loading.Lex path fault) from to h = h
load_counts (loading.Syntax path fault) from to h = h
load_counts (loading.Eval fault) from to h = h
load_counts (loading.Declaration path rule line) from to h = h
load_counts (loading.Feature path line fault) from to h = h

-- ---- requests

pub asked_told : (Rest : EvalFault → Type 0) (l : LoadedProject EvalFault) (words : List Text) (fault : RequestFault) → IsBy (request_fault l.declared.registry words) fault
    → Tells Rest (λ pattern outcome. (pattern ≡ None) × IsAsked l words outcome) (Err (stop_of_request fault))
asked_told Rest l words (asking.UnknownWord word) h = (refl, h)
asked_told Rest l words (asking.UnknownValue word) h = (refl, h)
asked_told Rest l words (asking.Conflict word) h = (refl, h)
asked_told Rest l words asking.OutOfMemory h = tt

pub asked_whole : (fault : RequestFault) → IsWhole (stop_of_request fault)
asked_whole (asking.UnknownWord word) = λ is. cc
asked_whole (asking.UnknownValue word) = λ is. cc
asked_whole (asking.Conflict word) = λ is. cc
asked_whole asking.OutOfMemory = tt

pub asked_counts : (fault : RequestFault) (o : Outside) → CountsStop (stop_of_request fault) o o
asked_counts (asking.UnknownWord word) o = refl
asked_counts (asking.UnknownValue word) o = refl
asked_counts (asking.Conflict word) o = refl
asked_counts asking.OutOfMemory o = tt

-- ---- generation

-- what is known of a fault of the project's own text is known of the one of an answer
module _ (K L : EvalFault → Type 0) (follows : (fault : EvalFault) → K fault → L fault) where
  choice_known : (fault : ChoiceFault EvalFault) → IsKnown K (generating.NotChosen fault) → IsKnown L (generating.NotChosen fault)
  choice_known (choosing.NoAlternative target set) known = tt
  choice_known (choosing.AmbiguousAlternative target set i k) known = tt
  choice_known (choosing.Unstable target first second) known = tt
  choice_known (choosing.BadAnswer target rule word) known = tt
  choice_known (choosing.Eval fault) known = follows fault known
  choice_known choosing.OutOfMemory known = tt

  making_known : (fault : MakingFault EvalFault) → IsKnown K (generating.NotMade fault) → IsKnown L (generating.NotMade fault)
  making_known (making.NoChain source goal) known = tt
  making_known (making.TwoChains source goal first second) known = tt
  making_known (making.PathClash path) known = tt
  making_known (making.LocationOutside path) known = tt
  making_known (making.TooManySteps count) known = tt
  making_known (making.Eval fault) known = follows fault known
  making_known making.OutOfMemory known = tt

  pub generation_known : (result : Result Made (GenFault EvalFault)) → IfErr result (IsKnown K) → IfErr result (IsKnown L)
  generation_known (Ok made) known = tt
  generation_known (Err (generating.NoTarget name)) known = tt
  generation_known (Err (generating.TargetCycle targets)) known = tt
  generation_known (Err (generating.UsageConflict target feature first second)) known = tt
  generation_known (Err (generating.NotChosen fault)) known = choice_known fault known
  generation_known (Err (generating.NotMade fault)) known = making_known fault known
  generation_known (Err generating.OutOfMemory) known = tt

module _ (R : EvalFault → Type 0) where
  -- what is known of a pattern that was refused
  abbrev pub OfPattern : EvalFault → Type 0
  OfPattern fault = is_some (refused_by fault) ≡ true → R fault

  line_known : (fault : EvalFault) (why : Fault EvalFault) → unless (is_host_fault fault) (is_out_of_memory fault) why ≡ None → OfPattern fault → OfLine R fault
  line_known evaluating.Host why none known = tt
  line_known evaluating.OutOfMemory why none known = tt
  line_known (evaluating.At path line cause) why none known = known (go (is_some (refused_in (cause_of cause))) none)
    where
      go : (b : Bool) → unless b b why ≡ None → b ≡ true
      go true e = refl
      go false e = absurd (let clash : ◌≡◌ {A = Option (Fault EvalFault)} (Some why) None = e in cc)

  -- where a fault is none as data, a pattern was refused
  choice_refused : (fault : ChoiceFault EvalFault) → fault_of is_host_fault is_out_of_memory (generating.NotChosen fault) ≡ None → IsKnown OfPattern (generating.NotChosen fault)
      → IsKnown (OfLine R) (generating.NotChosen fault)
  choice_refused (choosing.NoAlternative target set) none known = tt
  choice_refused (choosing.AmbiguousAlternative target set i k) none known = tt
  choice_refused (choosing.Unstable target first second) none known = tt
  choice_refused (choosing.BadAnswer target rule word) none known = tt
  choice_refused (choosing.Eval fault) none known = line_known fault (not_chosen (choosing.Eval fault)) none known
  choice_refused choosing.OutOfMemory none known = tt

  making_refused : (fault : MakingFault EvalFault) → fault_of is_host_fault is_out_of_memory (generating.NotMade fault) ≡ None → IsKnown OfPattern (generating.NotMade fault)
      → IsKnown (OfLine R) (generating.NotMade fault)
  making_refused (making.NoChain source goal) none known = tt
  making_refused (making.TwoChains source goal first second) none known = tt
  making_refused (making.PathClash path) none known = tt
  making_refused (making.LocationOutside path) none known = tt
  making_refused (making.TooManySteps count) none known = tt
  making_refused (making.Eval fault) none known = line_known fault (not_made (conversions.eval fault)) none known
  making_refused making.OutOfMemory none known = tt

  pub generation_refused : (fault : GenFault EvalFault) → fault_of is_host_fault is_out_of_memory fault ≡ None → IsKnown OfPattern fault → IsKnown (OfLine R) fault
  generation_refused (generating.NoTarget name) none known = tt
  generation_refused (generating.TargetCycle targets) none known = tt
  generation_refused (generating.UsageConflict target feature first second) none known = tt
  generation_refused (generating.NotChosen fault) none known = choice_refused fault none known
  generation_refused (generating.NotMade fault) none known = making_refused fault none known
  generation_refused generating.OutOfMemory none known = tt

  pub generated_told : (l : LoadedProject EvalFault) (request : Request) (result : Result Made (GenFault EvalFault)) → IsPlanned l is_host_fault is_out_of_memory request result → IfErr result (IsKnown OfPattern)
      → Tells R (λ pattern outcome. (pattern ≡ None) × IsGenerated l request.sets request.targets outcome) (planned_or_stop result)
  generated_told l request (Ok made) h known = (refl, h)
  generated_told l request (Err fault) h known =
      generation_told R (λ pattern outcome. (pattern ≡ None) × IsGenerated l request.sets request.targets outcome) fault (go (fault_of is_host_fault is_out_of_memory fault) refl h)
    where
      go : (found : Option (Fault EvalFault)) → fault_of is_host_fault is_out_of_memory fault ≡ found → IfFault (λ why. Plans l request.sets request.targets (Err why)) found
          → IfRefusal (IsKnown (OfLine R) fault) (option_map of_generation found) (λ f. (◌≡◌ {A = Option Text} None None) × IsGenerated l request.sets request.targets (Err f))
      go None none h = generation_refused fault none known
      go (Some why) is h = (refl, h)

choice_whole : (fault : ChoiceFault EvalFault) → IsKnown HoldsNoMemory (generating.NotChosen fault) → IsWhole (stop_of_choice fault)
choice_whole (choosing.NoAlternative target set) known = tt
choice_whole (choosing.AmbiguousAlternative target set i k) known = tt
choice_whole (choosing.Unstable target first second) known = tt
choice_whole (choosing.BadAnswer target rule word) known = tt
choice_whole (choosing.Eval evaluating.Host) known = tt
choice_whole (choosing.Eval evaluating.OutOfMemory) known = tt
choice_whole (choosing.Eval (evaluating.At path line cause)) known = known
choice_whole choosing.OutOfMemory known = tt

making_whole : (fault : MakingFault EvalFault) → IsKnown HoldsNoMemory (generating.NotMade fault) → IsWhole (stop_of_making fault)
making_whole (making.NoChain source goal) known = tt
making_whole (making.TwoChains source goal first second) known = tt
making_whole (making.PathClash path) known = tt
making_whole (making.LocationOutside path) known = tt
making_whole (making.TooManySteps count) known = tt
making_whole (making.Eval evaluating.Host) known = tt
making_whole (making.Eval evaluating.OutOfMemory) known = tt
making_whole (making.Eval (evaluating.At path line cause)) known = known
making_whole making.OutOfMemory known = tt

pub generated_whole : (result : Result Made (GenFault EvalFault)) → IfErr result (IsKnown HoldsNoMemory) → IfErr (planned_or_stop result) IsWhole
generated_whole (Ok made) known = tt
generated_whole (Err (generating.NoTarget name)) known = tt
generated_whole (Err (generating.TargetCycle targets)) known = tt
generated_whole (Err (generating.UsageConflict target feature first second)) known = tt
generated_whole (Err (generating.NotChosen fault)) known = choice_whole fault known
generated_whole (Err (generating.NotMade fault)) known = making_whole fault known
generated_whole (Err generating.OutOfMemory) known = tt

module _ (from to : Outside) where
  -- a pattern that was refused is counted like any refusal
  counts_both : (b : Bool) → CountsFault b b from.faults to.faults → to.faults ≡ from.faults
  counts_both true h = h
  counts_both false h = h

  evaluation_counts : (fault : EvalFault) (why : PlanRefusal) → CountsFault (is_host_fault fault) (is_out_of_memory fault) from.faults to.faults → CountsStop (or_stop fault why) from to
  evaluation_counts evaluating.Host why h = record { kept = h.kept; more = h.more }
  evaluation_counts evaluating.OutOfMemory why h = tt
  evaluation_counts (evaluating.At path line cause) why h = counts_both (is_host_fault (evaluating.At path line cause)) h

  abbrev IsCountedAs : GenFault EvalFault → Type 0
  IsCountedAs fault = CountsFault (is_eval is_host_fault fault) (is_memory is_out_of_memory fault) from.faults to.faults

  choice_counts : (fault : ChoiceFault EvalFault) → IsCountedAs (generating.NotChosen fault) → CountsStop (stop_of_choice fault) from to
  choice_counts (choosing.NoAlternative target set) h = h
  choice_counts (choosing.AmbiguousAlternative target set i k) h = h
  choice_counts (choosing.Unstable target first second) h = h
  choice_counts (choosing.BadAnswer target rule word) h = h
  choice_counts (choosing.Eval fault) h = evaluation_counts fault (refusals.Generation (generating.NotChosen (choosing.Eval fault))) h
  choice_counts choosing.OutOfMemory h = tt

  making_counts : (fault : MakingFault EvalFault) → IsCountedAs (generating.NotMade fault) → CountsStop (stop_of_making fault) from to
  making_counts (making.NoChain source goal) h = h
  making_counts (making.TwoChains source goal first second) h = h
  making_counts (making.PathClash path) h = h
  making_counts (making.LocationOutside path) h = h
  making_counts (making.TooManySteps count) h = h
  making_counts (making.Eval fault) h = evaluation_counts fault (refusals.Generation (generating.NotMade (making.Eval fault))) h
  making_counts making.OutOfMemory h = tt

  pub generated_counts : (result : Result Made (GenFault EvalFault)) → IsCounted (is_eval is_host_fault) (is_memory is_out_of_memory) from.faults to.faults result → Counts (planned_or_stop result) from to
  generated_counts (Ok made) h = h
  generated_counts (Err (generating.NoTarget name)) h = h
  generated_counts (Err (generating.TargetCycle targets)) h = h
  generated_counts (Err (generating.UsageConflict target feature first second)) h = h
  generated_counts (Err (generating.NotChosen fault)) h = choice_counts fault h
  generated_counts (Err (generating.NotMade fault)) h = making_counts fault h
  generated_counts (Err generating.OutOfMemory) h = tt
