-- A request over a loaded project has its plan or its refusal as the answer, as generation gives it.
use Rattle.std.proofs.Common.{◌≡◌, ◌⊎◌, ℕ, Bool, true, false, Option, Some, None, List, [], Result, Ok, Err, inl, inr, refl, sym, ap, ◌∙◌, subst}
use Rattle.std.specs.Prelude.{IfOk, IfErr}
use Rattle.std.specs.Option.{IfSome}
use Rattle.b2_host.specs.Disks.{Disk}
use Rattle.b2_host.specs.Outside.{Outside}
use Rattle.b2_host.specs.OutsideLaws.{Keeps, keeps_same}
use Rattle.jam_journal.specs.Tables.{Text}
use Rattle.jam_scope.specs.Worlds.{Worlds}
use Rattle.jam_effects.specs.Causes.{HoldsNoMemory}
use Rattle.jam_effects.specs.declared.fault.EvalFault.{EvalFault}
use Rattle.b2_plan.specs.Plans.{Apart}
use Rattle.b2_props.specs.declared.request.Request.{Request}
use Rattle.b2_props.specs.declared.request_fault.RequestFault.{RequestFault}
use Rattle.b2_props.specs.Sets.{Pair}
use Rattle.b2_props.specs.Words.{IsBy, target_words}
use Rattle.b2_props.specs.Requests.{request_fault, request_sets}
use Rattle.b2_declared.specs.declared.whole.Declared.{Declared}
use Rattle.b2_evaluator.specs.Answers.{Answers}
use Rattle.b2_base.specs.Counts.{IsCounted}
use Rattle.b2_alternatives.specs.declared.fault.ChoiceFault.{ChoiceFault}
use Rattle.b2_alternatives.specs.declared.fault.ChoiceFault.TheVariants as choosing
use Rattle.b2_making.specs.declared.fault.MakingFault.{MakingFault}
use Rattle.b2_making.specs.declared.fault.MakingFault.TheVariants as making
use Rattle.b2_generate.specs.declared.fault.GenFault.{GenFault}
use Rattle.b2_generate.specs.declared.fault.GenFault.TheVariants as generating
use Rattle.b2_request_plan.specs.declared.planned.Planned.{Planned as Made}
use Rattle.b2_generate.specs.Answers.{HaveSets}
use Rattle.b2_generate.specs.LoadedProjects.{LoadedProject}
use Rattle.b2_generate.specs.Planning.{Planned}
use Rattle.b2_request_plan.specs.Plans.{seen, IsPlanned}
use Rattle.b2_generate.specs.ToldOutcomes.{loaded_of, IsKnown, is_eval, is_memory}
use Rattle.b2_own_text.specs.Faults.{is_host_fault, is_out_of_memory}
use Rattle.b2_own_text.specs.DiskViews.{setting_of}
use Rattle.b2_own_text.specs.Worlds.{answers_in, told_in}
use Rattle.b2_testing.specs.Requested.{requested}
use Rattle.b2_prepare.specs.declared.refusal.PlanStop.{PlanStop}
use Rattle.b2_prepare.specs.declared.refusal.PlanStop.TheVariants as stops
use Rattle.b2_prepare.specs.Meaning.{Refusal, of_load, of_request, of_generation, project_of, Refuses}
use Rattle.b2_prepare.specs.Refusals.{stop_of_request}
use Rattle.b2_prepare.specs.Preparing.{Tells, IsWhole, Counts}
use Rattle.b2_prepare.specs.PlanningParts.{planned_or_stop, IsGenerated, IsAsked, IsRefusedFor, Does, PlansRequest, Asks, AreAsked, HandsOn}
use Rattle.b2_prepare.specs.Again.{is_refusal, is_refused_answer, Settles, SettlesBy}
use Rattle.b2_prepare.proofs.FaultsAreToldAsAnswers.{tells_map}
use Rattle.b2_prepare.proofs.RefusedPatternGivesNoPlan.{not_so, first_same, answers_again_after}
use Rattle.b2_prepare.proofs.RefusalsHoldNoHostFault.{OfPattern, generated_told, generated_whole, generated_counts, asked_told, asked_whole, asked_counts}

-- ---- what is kept

-- an answer that nothing was done for
pub nothing_done : (found : Declared) (Rest : Disk → EvalFault → Type 0) (Told : Disk → Result Planned Refusal → Type 0) (o : Outside) (stop : PlanStop)
    → IfSome o.disk (λ disk. Tells (Rest disk) (λ pattern outcome. (pattern ≡ None) × Told disk outcome) (Err stop)) → IsWhole stop → Counts (Err stop) o o → Does found Rest Told o o (Err stop)
nothing_done found Rest Told o stop told whole counts = record {
  told = told;
  whole = whole;
  apart = tt;
  sets = tt;
  disk = refl;
  children = refl;
  keeps = keeps_same o o refl;
  counts = counts;
}

-- nothing is told of it where memory ran out
no_told : (Rest : Disk → EvalFault → Type 0) (Told : Disk → Result Planned Refusal → Type 0) (disk : Option Disk)
    → IfSome disk (λ d. Tells (Rest d) (λ pattern outcome. (pattern ≡ None) × Told d outcome) (Err stops.OutOfMemory))
no_told Rest Told None = tt
no_told Rest Told (Some d) = tt

-- what was done is kept where memory ran out after it
memory_after : (found : Declared) (Rest : Disk → EvalFault → Type 0) (Told : Disk → Result Planned Refusal → Type 0) (from to : Outside) (asked : Result Made PlanStop)
    → Does found Rest Told from to asked → Does found Rest Told from to (Err stops.OutOfMemory)
memory_after found Rest Told from to asked does = record {
  told = no_told Rest Told from.disk;
  whole = tt;
  apart = tt;
  sets = tt;
  disk = does.disk;
  children = does.children;
  keeps = does.keeps;
  counts = tt;
}

-- what a request came to is handed on
pub asks_handed : (words : List Text) (found : Declared) (worlds : Worlds) (from to : Outside) (asked result : Result Made PlanStop)
    → (result ≡ asked) ⊎ (result ≡ Err stops.OutOfMemory) → Asks words found worlds from to asked → Asks words found worlds from to result
asks_handed words found worlds from to asked result (inl is) asks = subst (Asks words found worlds from to) (sym is) asks
asks_handed words found worlds from to asked result (inr is) asks =
    subst (Asks words found worlds from to) (sym is) (memory_after found (IsRefusedFor words found worlds) (λ disk. IsAsked (project_of disk worlds found) words) from to asked asks)

-- a stop has no tests
pub handed_stop : (found : Declared) (stop : PlanStop) (result : Result Made PlanStop) (tests : List (List ℕ × ℕ)) → result ≡ Err stop → tests ≡ [] → HandsOn found (Err stop) result tests
handed_stop found stop result tests is none = record { same = inl is; tests_are = subst (λ r. AreAsked found r tests) (sym is) none }

-- a plan is handed on with its tests
pub handed_plan : (found : Declared) (made : Made) (tests : List (List ℕ × ℕ)) → tests ≡ requested found (seen made).rows (seen made).steps (seen made).wanted → HandsOn found (Ok made) (Ok made) tests
handed_plan found made tests are = record { same = inl refl; tests_are = are }

-- or memory ran out at them
pub handed_memory : (found : Declared) (made : Made) (result : Result Made PlanStop) (tests : List (List ℕ × ℕ)) → result ≡ Err stops.OutOfMemory → tests ≡ [] → HandsOn found (Ok made) result tests
handed_memory found made result tests is none = record { same = inr is; tests_are = subst (λ r. AreAsked found r tests) (sym is) none }

-- ---- generation

-- nothing is to be known of a fault that is no refused pattern
module _ (R : EvalFault → Type 0) where
  no_choice : (fault : ChoiceFault EvalFault) → is_refusal (generating.NotChosen fault) ≡ false → IsKnown (OfPattern R) (generating.NotChosen fault)
  no_choice (choosing.NoAlternative target set) e = tt
  no_choice (choosing.AmbiguousAlternative target set i k) e = tt
  no_choice (choosing.Unstable target first second) e = tt
  no_choice (choosing.BadAnswer target rule word) e = tt
  no_choice (choosing.Eval fault) e = λ is. not_so (sym e ∙ is)
  no_choice choosing.OutOfMemory e = tt

  no_making : (fault : MakingFault EvalFault) → is_refusal (generating.NotMade fault) ≡ false → IsKnown (OfPattern R) (generating.NotMade fault)
  no_making (making.NoChain source goal) e = tt
  no_making (making.TwoChains source goal first second) e = tt
  no_making (making.PathClash path) e = tt
  no_making (making.LocationOutside path) e = tt
  no_making (making.TooManySteps count) e = tt
  no_making (making.Eval fault) e = λ is. not_so (sym e ∙ is)
  no_making making.OutOfMemory e = tt

  no_refusal : (generated : Result Made (GenFault EvalFault)) → is_refused_answer generated ≡ false → IfErr generated (IsKnown (OfPattern R))
  no_refusal (Ok made) e = tt
  no_refusal (Err (generating.NoTarget name)) e = tt
  no_refusal (Err (generating.TargetCycle targets)) e = tt
  no_refusal (Err (generating.UsageConflict target feature first second)) e = tt
  no_refusal (Err (generating.NotChosen fault)) e = no_choice fault e
  no_refusal (Err (generating.NotMade fault)) e = no_making fault e
  no_refusal (Err generating.OutOfMemory) e = tt

module _ (found : Declared) (worlds : Worlds) (request : Request) (roots : List (List ℕ)) (from mid to : Outside) (generated : Result Made (GenFault EvalFault)) where
  told_over : ((told : Answers EvalFault) → told_in found.places worlds from.disk ≡ Some told → IsPlanned (loaded_of found roots told) is_host_fault is_out_of_memory request generated)
      → roots ≡ worlds.now.roots → is_refused_answer generated ≡ false
      → IfSome from.disk (λ disk. Tells (Refuses disk worlds found request.sets request.targets) (λ pattern outcome. (pattern ≡ None) × IsGenerated (project_of disk worlds found) request.sets request.targets outcome) (planned_or_stop generated))
  told_over told same not_refused = go from.disk refl
    where
      go : (disk : Option Disk) → from.disk ≡ disk
          → IfSome disk (λ d. Tells (Refuses d worlds found request.sets request.targets) (λ pattern outcome. (pattern ≡ None) × IsGenerated (project_of d worlds found) request.sets request.targets outcome) (planned_or_stop generated))
      go None e = tt
      go (Some d) e =
          generated_told (Refuses d worlds found request.sets request.targets) (project_of d worlds found) request generated
          (subst (λ rs. IsPlanned (loaded_of found rs (answers_in (setting_of d) found.places worlds)) is_host_fault is_out_of_memory request generated) same
          (told (answers_in (setting_of d) found.places worlds) (ap (told_in found.places worlds) e)))
          (no_refusal (Refuses d worlds found request.sets request.targets) generated not_refused)

  -- what holds of the plan that was generated
  ok_over : (Holds : Made → Type 0) (made : Result Made (GenFault EvalFault)) → IfOk made Holds → IfOk (planned_or_stop made) Holds
  ok_over Holds (Ok p) h = h
  ok_over Holds (Err fault) h = tt

  no_plan_so : (Holds : Made → Type 0) (result : Result Made PlanStop) → IfOk result (λ made. ⊥) → IfOk result Holds
  no_plan_so Holds (Ok made) h = absurd h
  no_plan_so Holds (Err stop) h = tt

  -- the count stays where a pattern was refused
  same_first : (given : Result Made (GenFault EvalFault)) → is_refused_answer given ≡ true → IsCounted (is_eval is_host_fault) (is_memory is_out_of_memory) from.faults mid.faults given → mid.faults ≡ from.faults
  same_first (Ok made) e h = h
  same_first (Err fault) e h = first_same from mid fault e h

  told_map : (result : Result Made PlanStop) → IfSome from.disk (λ disk. Tells (Refuses disk worlds found request.sets request.targets) (λ pattern outcome. ⊥) result)
      → IfSome from.disk (λ disk. Tells (Refuses disk worlds found request.sets request.targets) (λ pattern outcome. (pattern ≡ None) × IsGenerated (project_of disk worlds found) request.sets request.targets outcome) result)
  told_map result h = go from.disk h
    where
      go : (disk : Option Disk) → IfSome disk (λ d. Tells (Refuses d worlds found request.sets request.targets) (λ pattern outcome. ⊥) result)
          → IfSome disk (λ d. Tells (Refuses d worlds found request.sets request.targets) (λ pattern outcome. (pattern ≡ None) × IsGenerated (project_of d worlds found) request.sets request.targets outcome) result)
      go None h = tt
      go (Some d) h =
          tells_map (Refuses d worlds found request.sets request.targets) (λ pattern outcome. ⊥)
          (Refuses d worlds found request.sets request.targets) (λ pattern outcome. (pattern ≡ None) × IsGenerated (project_of d worlds found) request.sets request.targets outcome) (λ fault h. h) (λ pattern outcome h. absurd h) result h

  -- the answer of a request, by what generation gave with these files and counts, and by what came of it
  pub settled_over : ((told : Answers EvalFault) → told_in found.places worlds from.disk ≡ Some told → IsPlanned (loaded_of found roots told) is_host_fault is_out_of_memory request generated)
      → roots ≡ worlds.now.roots → IfOk generated (λ p. Apart p.plan.steps p.plan.roots) → IfOk generated (λ p. HaveSets found (seen p).rows) → IfErr generated (IsKnown HoldsNoMemory)
      → IsCounted (is_eval is_host_fault) (is_memory is_out_of_memory) from.faults mid.faults generated → mid.disk ≡ from.disk
      → (result : Result Made PlanStop) → Settles found worlds request.sets request.targets generated mid to result
      → to.disk ≡ from.disk → to.children ≡ from.children → Keeps from to
      → PlansRequest found worlds request.sets request.targets from to result
  settled_over told same apart sets known counted between result settles disk children keeps = go (is_refused_answer generated) refl settles
    where
      go : (b : Bool) → is_refused_answer generated ≡ b → SettlesBy found worlds request.sets request.targets b generated mid to result → PlansRequest found worlds request.sets request.targets from to result
      go true is h =
          let again = answers_again_after found worlds request.sets request.targets from mid to result between (same_first generated is counted) h in
          record {
            told = told_map result again.told;
            whole = again.whole;
            apart = no_plan_so (λ p. Apart p.plan.steps p.plan.roots) result again.no_plan;
            sets = no_plan_so (λ p. HaveSets found (seen p).rows) result again.no_plan;
            disk = disk;
            children = children;
            keeps = keeps;
            counts = again.counts;
          }
      go false is h =
          subst (PlansRequest found worlds request.sets request.targets from to) (sym h.0)
          (record {
            told = told_over told same is;
            whole = generated_whole generated known;
            apart = ok_over (λ p. Apart p.plan.steps p.plan.roots) generated apart;
            sets = ok_over (λ p. HaveSets found (seen p).rows) generated sets;
            disk = disk;
            children = children;
            keeps = keeps;
            counts = subst (λ (o : Outside). Counts (planned_or_stop generated) from o) (sym h.1) (generated_counts from mid generated counted);
          })

-- ---- the request

-- the request is read, and planned
generated_asked : (l : LoadedProject EvalFault) (words : List Text) → request_fault l.declared.registry words ≡ None → (pattern : Option Text) (outcome : Result Planned Refusal)
    → (pattern ≡ None) × IsGenerated l (request_sets l.declared.registry words) (target_words l.declared.registry words) outcome → (pattern ≡ None) × IsAsked l words outcome
generated_asked l words sound pattern (Ok plan) h = (h.0, (sound, h.1))
generated_asked l words sound pattern (Err (of_load why)) h = absurd h.1
generated_asked l words sound pattern (Err (of_request why)) h = absurd h.1
generated_asked l words sound pattern (Err (of_generation why)) h = (h.0, (sound, h.1))

module _ (words : List Text) (found : Declared) (worlds : Worlds) (from to : Outside) where
  abbrev IsTold : Result Made PlanStop → List (List Pair) → List Text → Option Disk → Type 0
  IsTold result sets targets disk = IfSome disk (λ d. Tells (Refuses d worlds found sets targets) (λ pattern outcome. (pattern ≡ None) × IsGenerated (project_of d worlds found) sets targets outcome) result)

  pub asks_planned : (sets : List (List Pair)) (targets : List Text) (result : Result Made PlanStop) → sets ≡ request_sets found.registry words → targets ≡ target_words found.registry words
      → request_fault found.registry words ≡ None → PlansRequest found worlds sets targets from to result → Asks words found worlds from to result
  asks_planned sets targets result sets_are targets_are sound plans = record {
    told = go from.disk (subst (λ ss. IsTold result ss (target_words found.registry words) from.disk) sets_are (subst (λ ts. IsTold result sets ts from.disk) targets_are plans.told));
    whole = plans.whole;
    apart = plans.apart;
    sets = plans.sets;
    disk = plans.disk;
    children = plans.children;
    keeps = plans.keeps;
    counts = plans.counts;
  }
    where
      go : (disk : Option Disk) → IsTold result (request_sets found.registry words) (target_words found.registry words) disk
          → IfSome disk (λ d. Tells (IsRefusedFor words found worlds d) (λ pattern outcome. (pattern ≡ None) × IsAsked (project_of d worlds found) words outcome) result)
      go None h = tt
      go (Some d) h =
          tells_map (Refuses d worlds found (request_sets found.registry words) (target_words found.registry words)) (λ pattern outcome. (pattern ≡ None) × IsGenerated (project_of d worlds found) (request_sets found.registry words) (target_words found.registry words) outcome)
          (IsRefusedFor words found worlds d) (λ pattern outcome. (pattern ≡ None) × IsAsked (project_of d worlds found) words outcome) (λ fault refused. (sound, refused)) (generated_asked (project_of d worlds found) words sound) result h

  pub asks_refused : (fault : RequestFault) → IsBy (request_fault found.registry words) fault
      → Asks words found worlds from from (Err (stop_of_request fault))
  asks_refused fault cause =
      nothing_done found (IsRefusedFor words found worlds) (λ disk. IsAsked (project_of disk worlds found) words) from (stop_of_request fault) (go from.disk) (asked_whole fault) (asked_counts fault from)
    where
      go : (disk : Option Disk) → IfSome disk (λ d. Tells (IsRefusedFor words found worlds d) (λ pattern outcome. (pattern ≡ None) × IsAsked (project_of d worlds found) words outcome) (Err (stop_of_request fault)))
      go None = tt
      go (Some d) = asked_told (IsRefusedFor words found worlds d) (project_of d worlds found) words fault cause
