-- Generation once more, after a pattern was refused in it.
use Rattle.std.proofs.Common.{◌≡◌, Bool, true, false, is_some, ℕ, List, Option, Some, None, Result, Ok, Err, refl, sym, ap, ◌∙◌, subst, arith}
use Rattle.std.specs.Prelude.{IfErr, if◌then◌else◌}
use Rattle.std.specs.Option.{IfSome, option_map}
use Rattle.b2_host.specs.Disks.{Disk}
use Rattle.b2_host.specs.Outside.{Outside}
use Rattle.b2_host.specs.OutsideLaws.{then_rose}
use Rattle.jam_journal.specs.Tables.{Text}
use Rattle.jam_scope.specs.Worlds.{Worlds}
use Rattle.jam_effects.specs.Causes.{cause_of, refused_by, HoldsNoMemory}
use Rattle.jam_meaning.specs.Faults.{refused_in}
use Rattle.jam_effects.specs.declared.fault.EvalFault.{EvalFault}
use Rattle.jam_effects.specs.declared.fault.EvalFault.TheVariants as evaluating
use Rattle.b2_props.specs.Sets.{Pair}
use Rattle.b2_props.specs.declared.request.Request.{Request}
use Rattle.b2_declared.specs.declared.place.Place.{Place}
use Rattle.b2_declared.specs.declared.whole.Declared.{Declared}
use Rattle.b2_evaluator.specs.Answers.{Answers}
use Rattle.b2_base.specs.Counts.{IsCounted, CountsFault}
use Rattle.b2_alternatives.specs.declared.fault.ChoiceFault.{ChoiceFault}
use Rattle.b2_alternatives.specs.declared.fault.ChoiceFault.TheVariants as choosing
use Rattle.b2_making.specs.Faults.{eval}
use Rattle.b2_making.specs.declared.fault.MakingFault.{MakingFault}
use Rattle.b2_making.specs.declared.fault.MakingFault.TheVariants as making
use Rattle.b2_generate.specs.declared.fault.GenFault.{GenFault}
use Rattle.b2_generate.specs.declared.fault.GenFault.TheVariants as generating
use Rattle.b2_request_plan.specs.declared.planned.Planned.{Planned as Made}
use Rattle.b2_generate.specs.Faults.{Fault, not_chosen, not_made}
use Rattle.b2_generate.specs.LoadedProjects.{LoadedProject}
use Rattle.b2_generate.specs.Planning.{Planned, Plans}
use Rattle.b2_request_plan.specs.Plans.{IsPlanned}
use Rattle.b2_generate.specs.ToldOutcomes.{unless, fault_of, loaded_of, IsRefusal, IsKnown, is_eval, is_memory as is_of_memory}
use Rattle.b2_own_text.specs.Faults.{is_host_fault, is_out_of_memory, is_host, is_memory}
use Rattle.b2_own_text.specs.KeptState.{Given, CanEndWithGiven}
use Rattle.b2_own_text.specs.Questions.{IsRefused, with_fault}
use Rattle.b2_own_text.specs.DiskViews.{setting_of}
use Rattle.b2_own_text.specs.Worlds.{answers_in, told_in}
use Rattle.b2_own_text.specs.declared.question.Question.{Question}
use Rattle.b2_prepare.specs.declared.refusal.PlanStop.{PlanStop}
use Rattle.b2_prepare.specs.declared.refusal.PlanStop.TheVariants as stops
use Rattle.b2_prepare.specs.Meaning.{Refusal, of_generation, IsOfText, not_returned, not_written, project_with, Refuses}
use Rattle.b2_prepare.specs.Refusals.{stop_of_generation}
use Rattle.b2_prepare.specs.Preparing.{IfRefusal, Tells, IsWhole, CountsStop, Counts}
use Rattle.b2_prepare.specs.Again.{is_refusal, stop_of_text, host_or_memory, refusal_or_stop, AnswersAgain}
use Rattle.b2_prepare.proofs.FaultsAreToldAsAnswers.{OfLine, generation_told}
use Rattle.b2_prepare.proofs.RefusalsHoldNoHostFault.{OfPattern, generation_known, generation_refused, generated_whole}

pub not_so : {A : Type 0} → ◌≡◌ {A = Bool} false true → A
not_so e = absurd (let clash : ◌≡◌ {A = Bool} false true = e in cc)

-- ---- a pattern that was refused is no fault as data

choice_none : (fault : ChoiceFault EvalFault) → is_refusal (generating.NotChosen fault) ≡ true → fault_of is_host_fault is_out_of_memory (generating.NotChosen fault) ≡ None
choice_none (choosing.NoAlternative target set) e = not_so e
choice_none (choosing.AmbiguousAlternative target set i k) e = not_so e
choice_none (choosing.Unstable target first second) e = not_so e
choice_none (choosing.BadAnswer target rule word) e = not_so e
choice_none (choosing.Eval evaluating.Host) e = refl
choice_none (choosing.Eval evaluating.OutOfMemory) e = refl
choice_none (choosing.Eval (evaluating.At path line cause)) e = ap (λ b. unless b b (not_chosen (choosing.Eval (evaluating.At path line cause)))) e
choice_none choosing.OutOfMemory e = refl

making_none : (fault : MakingFault EvalFault) → is_refusal (generating.NotMade fault) ≡ true → fault_of is_host_fault is_out_of_memory (generating.NotMade fault) ≡ None
making_none (making.NoChain source goal) e = not_so e
making_none (making.TwoChains source goal first second) e = not_so e
making_none (making.PathClash path) e = not_so e
making_none (making.LocationOutside path) e = not_so e
making_none (making.TooManySteps count) e = not_so e
making_none (making.Eval evaluating.Host) e = refl
making_none (making.Eval evaluating.OutOfMemory) e = refl
making_none (making.Eval (evaluating.At path line cause)) e = ap (λ b. unless b b (not_made (eval (evaluating.At path line cause)))) e
making_none making.OutOfMemory e = refl

refusal_none : (fault : GenFault EvalFault) → is_refusal fault ≡ true → fault_of is_host_fault is_out_of_memory fault ≡ None
refusal_none (generating.NoTarget name) e = not_so e
refusal_none (generating.TargetCycle targets) e = not_so e
refusal_none (generating.UsageConflict target feature first second) e = not_so e
refusal_none (generating.NotChosen fault) e = choice_none fault e
refusal_none (generating.NotMade fault) e = making_none fault e
refusal_none generating.OutOfMemory e = refl

-- ---- what is told

module _ (R : EvalFault → Type 0) (P : Option Text → Result Planned Refusal → Type 0) where
  text_told : (fault : EvalFault) → Tells R P (Err (stop_of_text fault))
  text_told evaluating.Host = tt
  text_told evaluating.OutOfMemory = tt
  text_told (evaluating.At path line cause) = tt

  host_choice_told : (fault : ChoiceFault EvalFault) → Tells R P (Err (host_or_memory (generating.NotChosen fault)))
  host_choice_told (choosing.NoAlternative target set) = tt
  host_choice_told (choosing.AmbiguousAlternative target set i k) = tt
  host_choice_told (choosing.Unstable target first second) = tt
  host_choice_told (choosing.BadAnswer target rule word) = tt
  host_choice_told (choosing.Eval fault) = text_told fault
  host_choice_told choosing.OutOfMemory = tt

  host_making_told : (fault : MakingFault EvalFault) → Tells R P (Err (host_or_memory (generating.NotMade fault)))
  host_making_told (making.NoChain source goal) = tt
  host_making_told (making.TwoChains source goal first second) = tt
  host_making_told (making.PathClash path) = tt
  host_making_told (making.LocationOutside path) = tt
  host_making_told (making.TooManySteps count) = tt
  host_making_told (making.Eval fault) = text_told fault
  host_making_told making.OutOfMemory = tt

  host_told : (fault : GenFault EvalFault) → Tells R P (Err (host_or_memory fault))
  host_told (generating.NoTarget name) = tt
  host_told (generating.TargetCycle targets) = tt
  host_told (generating.UsageConflict target feature first second) = tt
  host_told (generating.NotChosen fault) = host_choice_told fault
  host_told (generating.NotMade fault) = host_making_told fault
  host_told generating.OutOfMemory = tt

module _ (R : EvalFault → Type 0) (l : LoadedProject EvalFault) (request : Request) (kept : Given)
    (refuses : (fault : EvalFault) (why : Fault EvalFault) → IsOfText fault why → Plans l request.sets request.targets (Err why) → fault ≡ kept.fault → R fault) where
  abbrev IsPlannedAs : GenFault EvalFault → Type 0
  IsPlannedAs fault = IsRefusal is_host is_memory (λ why. Plans l request.sets request.targets (Err why)) fault

  choice_text : (fault : ChoiceFault EvalFault) → IsPlannedAs (generating.NotChosen fault) → IsKnown (CanEndWithGiven kept) (generating.NotChosen fault)
      → IsKnown (OfPattern R) (generating.NotChosen fault)
  choice_text (choosing.NoAlternative target set) planned known = tt
  choice_text (choosing.AmbiguousAlternative target set i k) planned known = tt
  choice_text (choosing.Unstable target first second) planned known = tt
  choice_text (choosing.BadAnswer target rule word) planned known = tt
  choice_text (choosing.Eval evaluating.Host) planned known = λ is. not_so is
  choice_text (choosing.Eval evaluating.OutOfMemory) planned known = λ is. not_so is
  choice_text (choosing.Eval (evaluating.At path line cause)) planned known = λ is.
      refuses (evaluating.At path line cause) (not_chosen (choosing.Eval (evaluating.At path line cause))) not_returned planned (known.given is)
  choice_text choosing.OutOfMemory planned known = tt

  making_text : (fault : MakingFault EvalFault) → IsPlannedAs (generating.NotMade fault) → IsKnown (CanEndWithGiven kept) (generating.NotMade fault)
      → IsKnown (OfPattern R) (generating.NotMade fault)
  making_text (making.NoChain source goal) planned known = tt
  making_text (making.TwoChains source goal first second) planned known = tt
  making_text (making.PathClash path) planned known = tt
  making_text (making.LocationOutside path) planned known = tt
  making_text (making.TooManySteps count) planned known = tt
  making_text (making.Eval evaluating.Host) planned known = λ is. not_so is
  making_text (making.Eval evaluating.OutOfMemory) planned known = λ is. not_so is
  making_text (making.Eval (evaluating.At path line cause)) planned known = λ is.
      refuses (evaluating.At path line cause) (not_made (eval (evaluating.At path line cause))) not_written planned (known.given is)
  making_text making.OutOfMemory planned known = tt

  text_known : (fault : GenFault EvalFault) → IsPlannedAs fault → IsKnown (CanEndWithGiven kept) fault → IsKnown (OfPattern R) fault
  text_known (generating.NoTarget name) planned known = tt
  text_known (generating.TargetCycle targets) planned known = tt
  text_known (generating.UsageConflict target feature first second) planned known = tt
  text_known (generating.NotChosen fault) planned known = choice_text fault planned known
  text_known (generating.NotMade fault) planned known = making_text fault planned known
  text_known generating.OutOfMemory planned known = tt

  pub again_told : (P : Option Text → Result Planned Refusal → Type 0) (result : Result Made (GenFault EvalFault)) → IsPlanned l is_host is_memory request result → IfErr result (IsKnown (CanEndWithGiven kept))
      → Tells R P (Err (refusal_or_stop result))
  again_told P (Ok made) planned known = tt
  again_told P (Err fault) planned known = go (is_refusal fault) refl
    where
      go : (b : Bool) → is_refusal fault ≡ b → Tells R P (Err (if b then stop_of_generation fault else host_or_memory fault))
      go true is =
          let none = refusal_none fault is in
          generation_told R P fault
          (subst (λ f. IfRefusal (IsKnown (OfLine R) fault) (option_map of_generation f) (λ found. P None (Err found))) (sym none)
          (generation_refused R fault none (text_known fault planned known)))
      go false is = host_told R P fault

-- ---- over every host

text_whole : (fault : EvalFault) → IsWhole (stop_of_text fault)
text_whole evaluating.Host = tt
text_whole evaluating.OutOfMemory = tt
text_whole (evaluating.At path line cause) = tt

host_choice_whole : (fault : ChoiceFault EvalFault) → IsWhole (host_or_memory (generating.NotChosen fault))
host_choice_whole (choosing.NoAlternative target set) = tt
host_choice_whole (choosing.AmbiguousAlternative target set i k) = tt
host_choice_whole (choosing.Unstable target first second) = tt
host_choice_whole (choosing.BadAnswer target rule word) = tt
host_choice_whole (choosing.Eval fault) = text_whole fault
host_choice_whole choosing.OutOfMemory = tt

host_making_whole : (fault : MakingFault EvalFault) → IsWhole (host_or_memory (generating.NotMade fault))
host_making_whole (making.NoChain source goal) = tt
host_making_whole (making.TwoChains source goal first second) = tt
host_making_whole (making.PathClash path) = tt
host_making_whole (making.LocationOutside path) = tt
host_making_whole (making.TooManySteps count) = tt
host_making_whole (making.Eval fault) = text_whole fault
host_making_whole making.OutOfMemory = tt

host_whole : (fault : GenFault EvalFault) → IsWhole (host_or_memory fault)
host_whole (generating.NoTarget name) = tt
host_whole (generating.TargetCycle targets) = tt
host_whole (generating.UsageConflict target feature first second) = tt
host_whole (generating.NotChosen fault) = host_choice_whole fault
host_whole (generating.NotMade fault) = host_making_whole fault
host_whole generating.OutOfMemory = tt

pub again_whole : (result : Result Made (GenFault EvalFault)) → IfErr result (IsKnown HoldsNoMemory) → IsWhole (refusal_or_stop result)
again_whole (Ok made) known = tt
again_whole (Err fault) known = go (is_refusal fault)
  where
    go : (b : Bool) → IsWhole (if b then stop_of_generation fault else host_or_memory fault)
    go true = generated_whole (Err fault) known
    go false = host_whole fault

module _ (from to : Outside) where
  abbrev IsCountedAs : GenFault EvalFault → Type 0
  IsCountedAs fault = CountsFault (is_eval is_host fault) (is_of_memory is_memory fault) from.faults to.faults

  -- a refusal leaves the count
  choice_refusal_counts : (fault : ChoiceFault EvalFault) → is_refusal (generating.NotChosen fault) ≡ true → IsCountedAs (generating.NotChosen fault) → CountsStop (stop_of_generation (generating.NotChosen fault)) from to
  choice_refusal_counts (choosing.NoAlternative target set) e h = h
  choice_refusal_counts (choosing.AmbiguousAlternative target set i k) e h = h
  choice_refusal_counts (choosing.Unstable target first second) e h = h
  choice_refusal_counts (choosing.BadAnswer target rule word) e h = h
  choice_refusal_counts (choosing.Eval evaluating.Host) e h = not_so e
  choice_refusal_counts (choosing.Eval evaluating.OutOfMemory) e h = not_so e
  choice_refusal_counts (choosing.Eval (evaluating.At path line cause)) e h = h
  choice_refusal_counts choosing.OutOfMemory e h = tt

  making_refusal_counts : (fault : MakingFault EvalFault) → is_refusal (generating.NotMade fault) ≡ true → IsCountedAs (generating.NotMade fault) → CountsStop (stop_of_generation (generating.NotMade fault)) from to
  making_refusal_counts (making.NoChain source goal) e h = h
  making_refusal_counts (making.TwoChains source goal first second) e h = h
  making_refusal_counts (making.PathClash path) e h = h
  making_refusal_counts (making.LocationOutside path) e h = h
  making_refusal_counts (making.TooManySteps count) e h = h
  making_refusal_counts (making.Eval evaluating.Host) e h = not_so e
  making_refusal_counts (making.Eval evaluating.OutOfMemory) e h = not_so e
  making_refusal_counts (making.Eval (evaluating.At path line cause)) e h = h
  making_refusal_counts making.OutOfMemory e h = tt

  refusal_counts : (fault : GenFault EvalFault) → is_refusal fault ≡ true → IsCountedAs fault → CountsStop (stop_of_generation fault) from to
  refusal_counts (generating.NoTarget name) e h = h
  refusal_counts (generating.TargetCycle targets) e h = h
  refusal_counts (generating.UsageConflict target feature first second) e h = h
  refusal_counts (generating.NotChosen fault) e h = choice_refusal_counts fault e h
  refusal_counts (generating.NotMade fault) e h = making_refusal_counts fault e h
  refusal_counts generating.OutOfMemory e h = tt

  -- the host's fault counts
  choice_host_counts : (fault : ChoiceFault EvalFault) → IsCountedAs (generating.NotChosen fault) → CountsStop (host_or_memory (generating.NotChosen fault)) from to
  choice_host_counts (choosing.NoAlternative target set) h = tt
  choice_host_counts (choosing.AmbiguousAlternative target set i k) h = tt
  choice_host_counts (choosing.Unstable target first second) h = tt
  choice_host_counts (choosing.BadAnswer target rule word) h = tt
  choice_host_counts (choosing.Eval evaluating.Host) h = record { kept = h.kept; more = h.more }
  choice_host_counts (choosing.Eval evaluating.OutOfMemory) h = tt
  choice_host_counts (choosing.Eval (evaluating.At path line cause)) h = tt
  choice_host_counts choosing.OutOfMemory h = tt

  making_host_counts : (fault : MakingFault EvalFault) → IsCountedAs (generating.NotMade fault) → CountsStop (host_or_memory (generating.NotMade fault)) from to
  making_host_counts (making.NoChain source goal) h = tt
  making_host_counts (making.TwoChains source goal first second) h = tt
  making_host_counts (making.PathClash path) h = tt
  making_host_counts (making.LocationOutside path) h = tt
  making_host_counts (making.TooManySteps count) h = tt
  making_host_counts (making.Eval evaluating.Host) h = record { kept = h.kept; more = h.more }
  making_host_counts (making.Eval evaluating.OutOfMemory) h = tt
  making_host_counts (making.Eval (evaluating.At path line cause)) h = tt
  making_host_counts making.OutOfMemory h = tt

  host_counts : (fault : GenFault EvalFault) → IsCountedAs fault → CountsStop (host_or_memory fault) from to
  host_counts (generating.NoTarget name) h = tt
  host_counts (generating.TargetCycle targets) h = tt
  host_counts (generating.UsageConflict target feature first second) h = tt
  host_counts (generating.NotChosen fault) h = choice_host_counts fault h
  host_counts (generating.NotMade fault) h = making_host_counts fault h
  host_counts generating.OutOfMemory h = tt

  pub again_counts : (result : Result Made (GenFault EvalFault)) → IsCounted (is_eval is_host) (is_of_memory is_memory) from.faults to.faults result → CountsStop (refusal_or_stop result) from to
  again_counts (Ok made) h = tt
  again_counts (Err fault) h = go (is_refusal fault) refl
    where
      go : (b : Bool) → is_refusal fault ≡ b → CountsStop (if b then stop_of_generation fault else host_or_memory fault) from to
      go true is = refusal_counts fault is h
      go false is = host_counts fault h

  -- so it was when the pattern was refused first
  abbrev IsCountedFirst : GenFault EvalFault → Type 0
  IsCountedFirst fault = CountsFault (is_eval is_host_fault fault) (is_of_memory is_out_of_memory fault) from.faults to.faults

  same_by : (b : Bool) → b ≡ true → CountsFault b b from.faults to.faults → to.faults ≡ from.faults
  same_by true e h = h
  same_by false e h = not_so e

  pub text_same : (fault : EvalFault) → is_some (refused_by fault) ≡ true → CountsFault (is_host_fault fault) (is_out_of_memory fault) from.faults to.faults → to.faults ≡ from.faults
  text_same evaluating.Host e h = not_so e
  text_same evaluating.OutOfMemory e h = not_so e
  text_same (evaluating.At path line cause) e h = same_by (is_some (refused_in (cause_of cause))) e h

  first_choice : (fault : ChoiceFault EvalFault) → is_refusal (generating.NotChosen fault) ≡ true → IsCountedFirst (generating.NotChosen fault) → to.faults ≡ from.faults
  first_choice (choosing.NoAlternative target set) e h = not_so e
  first_choice (choosing.AmbiguousAlternative target set i k) e h = not_so e
  first_choice (choosing.Unstable target first second) e h = not_so e
  first_choice (choosing.BadAnswer target rule word) e h = not_so e
  first_choice (choosing.Eval fault) e h = text_same fault e h
  first_choice choosing.OutOfMemory e h = not_so e

  first_making : (fault : MakingFault EvalFault) → is_refusal (generating.NotMade fault) ≡ true → IsCountedFirst (generating.NotMade fault) → to.faults ≡ from.faults
  first_making (making.NoChain source goal) e h = not_so e
  first_making (making.TwoChains source goal first second) e h = not_so e
  first_making (making.PathClash path) e h = not_so e
  first_making (making.LocationOutside path) e h = not_so e
  first_making (making.TooManySteps count) e h = not_so e
  first_making (making.Eval fault) e h = text_same fault e h
  first_making making.OutOfMemory e h = not_so e

  pub first_same : (fault : GenFault EvalFault) → is_refusal fault ≡ true → IsCountedFirst fault → to.faults ≡ from.faults
  first_same (generating.NoTarget name) e h = not_so e
  first_same (generating.TargetCycle targets) e h = not_so e
  first_same (generating.UsageConflict target feature first second) e h = not_so e
  first_same (generating.NotChosen fault) e h = first_choice fault e h
  first_same (generating.NotMade fault) e h = first_making fault e h
  first_same generating.OutOfMemory e h = not_so e

-- ---- all of it

module _ (found : Declared) (worlds : Worlds) (request : Request) (question : Question) (fault : EvalFault) (kept : Given) (is_given : kept.fault ≡ fault) (from to : Outside)
    (refused : IfSome from.disk (λ disk. IsRefused found.places worlds disk question fault)) where
  refuses_so : (disk : Disk) → IsRefused found.places worlds disk question fault → (given : EvalFault) (why : Fault EvalFault) → IsOfText given why
      → Plans (project_with disk worlds found question fault) request.sets request.targets (Err why) → given ≡ kept.fault → Refuses disk worlds found request.sets request.targets given
  refuses_so disk is given why of_text plans same =
      let back = sym (same ∙ is_given) in
      record {
        question = question;
        refused = subst (IsRefused found.places worlds disk question) back is;
        why = why;
        of_text = of_text;
        plans = subst (λ f. Plans (project_with disk worlds found question f) request.sets request.targets (Err why)) back plans;
      }

  pub answers_again_refusing : (roots : List (List ℕ)) → roots ≡ worlds.now.roots → (result : Result Made (GenFault EvalFault))
      → ((told : Answers EvalFault) → option_map (with_fault question fault) (told_in found.places worlds from.disk) ≡ Some told → IsPlanned (loaded_of found roots told) is_host is_memory request result)
      → IfErr result (IsKnown (CanEndWithGiven kept)) → IsCounted (is_eval is_host) (is_of_memory is_memory) from.faults to.faults result
      → AnswersAgain found worlds request.sets request.targets from to (Err (refusal_or_stop result))
  answers_again_refusing roots same result told known counted = record {
    no_plan = tt;
    told = go from.disk refl refused;
    whole = again_whole result (generation_known (CanEndWithGiven kept) HoldsNoMemory (λ f h. h.whole) result known);
    counts = again_counts from to result counted;
  }
    where
      go : (disk : Option Disk) → from.disk ≡ disk → IfSome disk (λ d. IsRefused found.places worlds d question fault)
          → IfSome disk (λ d. Tells (Refuses d worlds found request.sets request.targets) (λ pattern outcome. ⊥) (Err (refusal_or_stop result)))
      go None e is = tt
      go (Some d) e is =
          again_told (Refuses d worlds found request.sets request.targets) (project_with d worlds found question fault) request kept (refuses_so d is) (λ pattern outcome. ⊥) result
          (subst (λ rs. IsPlanned (loaded_of found rs (with_fault question fault (answers_in (setting_of d) found.places worlds))) is_host is_memory request result) same
          (told (with_fault question fault (answers_in (setting_of d) found.places worlds)) (ap (λ x. option_map (with_fault question fault) (told_in found.places worlds x)) e)))
          known

-- an answer that is a fault of the host, or out of memory
pub answers_again_host : (found : Declared) (worlds : Worlds) (sets : List (List Pair)) (targets : List Text) (from to : Outside) → CountsStop stops.HostInGeneration from to → AnswersAgain found worlds sets targets from to (Err stops.HostInGeneration)
answers_again_host found worlds sets targets from to counts = record { no_plan = tt; told = go from.disk; whole = tt; counts = counts }
  where
    go : (disk : Option Disk) → IfSome disk (λ d. Tells (Refuses d worlds found sets targets) (λ pattern outcome. ⊥) (Err stops.HostInGeneration))
    go None = tt
    go (Some d) = tt

pub answers_again_memory : (found : Declared) (worlds : Worlds) (sets : List (List Pair)) (targets : List Text) (from to : Outside) → AnswersAgain found worlds sets targets from to (Err stops.OutOfMemory)
answers_again_memory found worlds sets targets from to = record { no_plan = tt; told = go from.disk; whole = tt; counts = tt }
  where
    go : (disk : Option Disk) → IfSome disk (λ d. Tells (Refuses d worlds found sets targets) (λ pattern outcome. ⊥) (Err stops.OutOfMemory))
    go None = tt
    go (Some d) = tt

-- the count of faults was as before, and then it counted
pub counts_then : (from mid to : Outside) → mid.faults ≡ from.faults → (result : Result Made PlanStop) → Counts result mid to → Counts result from to
counts_then from mid to same (Ok made) h = h ∙ same
counts_then from mid to same (Err (stops.Refused why)) h = h ∙ same
counts_then from mid to same (Err stops.HostInLoad) h = then_rose from.faults mid.faults to.faults (omega (arith, same)) h
counts_then from mid to same (Err stops.HostInGeneration) h = then_rose from.faults mid.faults to.faults (omega (arith, same)) h
counts_then from mid to same (Err stops.OutOfMemory) h = tt

-- the files and the count of faults were as before, and then it was planned once more
pub answers_again_after : (found : Declared) (worlds : Worlds) (sets : List (List Pair)) (targets : List Text) (from mid to : Outside) (result : Result Made PlanStop)
    → mid.disk ≡ from.disk → mid.faults ≡ from.faults → AnswersAgain found worlds sets targets mid to result → AnswersAgain found worlds sets targets from to result
answers_again_after found worlds sets targets from mid to result disk faults h = record {
  no_plan = h.no_plan;
  told = subst (λ d. IfSome d (λ now. Tells (Refuses now worlds found sets targets) (λ pattern outcome. ⊥) result)) disk h.told;
  whole = h.whole;
  counts = counts_then from mid to faults result h.counts;
}

-- what is told of a question whose projects are these
pub refused_here : (found : Declared) (worlds : Worlds) (question : Question) (fault : EvalFault) (projects : List Place) (disk : Option Disk) → projects ≡ found.places → is_some (refused_by fault) ≡ true
    → IfSome disk (λ d. is_some (refused_by fault) ≡ true → IsRefused projects worlds d question fault) → IfSome disk (λ d. IsRefused found.places worlds d question fault)
refused_here found worlds question fault projects None same is h = tt
refused_here found worlds question fault projects (Some d) same is h = subst (λ ps. IsRefused ps worlds d question fault) same (h is)

-- a fault of the project's own text that is no refused pattern
pub answers_again_text : (found : Declared) (worlds : Worlds) (sets : List (List Pair)) (targets : List Text) (from to : Outside) (fault : EvalFault) → CountsFault (is_host_fault fault) (is_out_of_memory fault) from.faults to.faults
    → AnswersAgain found worlds sets targets from to (Err (stop_of_text fault))
answers_again_text found worlds sets targets from to evaluating.Host counted = answers_again_host found worlds sets targets from to (record { kept = counted.kept; more = counted.more })
answers_again_text found worlds sets targets from to evaluating.OutOfMemory counted = answers_again_memory found worlds sets targets from to
answers_again_text found worlds sets targets from to (evaluating.At path line cause) counted = answers_again_memory found worlds sets targets from to
