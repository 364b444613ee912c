-- What the parts of the way do.
use Rattle.std.specs.Prelude.{◌≡◌, ◌⊎◌, ℕ, Bool, List, [], Option, Some, None, Result, Ok, Err, IfOk, IfErr, is_some, false}
use Rattle.std.specs.Option.{IfSome}
use Rattle.b2_host.specs.Disks.{Disk}
use Rattle.b2_host.specs.Outside.{Outside}
use Rattle.b2_host.specs.OutsideLaws.{Keeps}
use Rattle.jam_journal.specs.Tables.{Text}
use Rattle.jam_scope.specs.Worlds.{Worlds}
use Rattle.jam_effects.specs.declared.fault.EvalFault.{EvalFault}
use Rattle.b2_plan.specs.Plans.{Apart}
use Rattle.b2_props.specs.Sets.{Pair}
use Rattle.b2_props.specs.Words.{target_words}
use Rattle.b2_props.specs.Requests.{request_sets, request_fault}
use Rattle.b2_props.specs.declared.request.Request.{Request}
use Rattle.b2_declared.specs.declared.whole.Declared.{Declared}
use Rattle.b2_evaluator.specs.Answers.{Answers}
use Rattle.b2_project_walk.specs.declared.fault.LoadFault.{LoadFault}
use Rattle.b2_project.specs.declared.project.Project.{Project}
use Rattle.b2_declared.specs.Numbered.{IsNumbered}
use Rattle.b2_generate.specs.declared.fault.GenFault.{GenFault}
use Rattle.b2_request_plan.specs.declared.planned.Planned.{Planned as Made}
use Rattle.b2_generate.specs.LoadedProjects.{LoadedProject}
use Rattle.b2_generate.specs.Planning.{Planned, Plans}
use Rattle.b2_request_plan.specs.Plans.{IsPlanOf}
use Rattle.b2_generate.specs.Answers.{HaveSets}
use Rattle.b2_request_plan.specs.Plans.{seen}
use Rattle.b2_testing.specs.Adding.{with_tests}
use Rattle.b2_testing.specs.Readying.{IsEquippedFor}
use Rattle.b2_testing.specs.Requested.{requested}
use Rattle.b2_prepare.specs.declared.refusal.PlanStop.{PlanStop}
use Rattle.b2_prepare.specs.declared.refusal.PlanStop.TheVariants as stops
use Rattle.b2_prepare.specs.Meaning.{Refusal, of_load, of_request, of_generation, project_of, Refuses}
use Rattle.b2_prepare.specs.Refusals.{stop_of_load, stop_of_generation}
use Rattle.b2_prepare.specs.Preparing.{Tells, IsWhole, Counts}

-- a project that was loaded
pub record IsReady (project : Project) : Type 0 where
  pub places : IsNumbered project.declared
  pub step : is_some project.world.now.step ≡ false

-- a fault of generation as the answer
abbrev pub planned_or_stop : Result Made (GenFault EvalFault) → Result Made PlanStop
planned_or_stop (Ok plan) = Ok plan
planned_or_stop (Err fault) = Err (stop_of_generation fault)

-- what generation gives for a request
abbrev pub IsGenerated : LoadedProject EvalFault → List (List Pair) → List Text → Result Planned Refusal → Type 0
IsGenerated l sets targets (Ok plan) = Plans l sets targets (Ok plan)
IsGenerated l sets targets (Err (of_load why)) = ⊥
IsGenerated l sets targets (Err (of_request why)) = ⊥
IsGenerated l sets targets (Err (of_generation why)) = Plans l sets targets (Err why)

-- what the words of a request come to, for a loaded project
abbrev pub IsAsked : LoadedProject EvalFault → List Text → Result Planned Refusal → Type 0
IsAsked l words (Ok plan) =
    (request_fault l.declared.registry words ≡ None) × Plans l (request_sets l.declared.registry words) (target_words l.declared.registry words) (Ok plan)
IsAsked l words (Err (of_load why)) = ⊥
IsAsked l words (Err (of_request why)) = request_fault l.declared.registry words ≡ Some why
IsAsked l words (Err (of_generation why)) =
    (request_fault l.declared.registry words ≡ None) × Plans l (request_sets l.declared.registry words) (target_words l.declared.registry words) (Err why)

-- the plan over output roots, where there was memory for a copy of them
abbrev pub IsPlanIn : {S E X : Type 0} → (S → Option (Answers E)) → (E → Bool) → (E → Bool) → Declared → Result (List (List ℕ)) X → Request → S
    → Result Made (GenFault E) → Type 0
IsPlanIn answers is_host is_out found copied request evaluator result =
    (roots : List (List ℕ)) → IfOk copied (λ rs. rs ≡ roots) → IsPlanOf answers is_host is_out found roots request evaluator result

-- What a part of the way does: where the files are visible, this is told of its answer, and the rest of the fault where a pattern is
-- refused in generation; all else holds over every host.
pub record Does (found : Declared) (Rest : Disk → EvalFault → Type 0) (Told : Disk → Result Planned Refusal → Type 0) (from to : Outside) (result : Result Made PlanStop) : Type 0 where
  pub told : IfSome from.disk (λ disk. Tells (Rest disk) (λ pattern outcome. (pattern ≡ None) × Told disk outcome) result)
  pub whole : IfErr result IsWhole
  pub apart : IfOk result (λ made. Apart made.plan.steps made.plan.roots)
  pub sets : IfOk result (λ made. HaveSets found (seen made).rows)
  pub disk : to.disk ≡ from.disk
  pub children : to.children ≡ from.children
  pub keeps : Keeps from to
  pub counts : Counts result from to

abbrev pub PlansRequest : Declared → Worlds → List (List Pair) → List Text → Outside → Outside → Result Made PlanStop → Type 0
PlansRequest found worlds sets targets = Does found (λ disk. Refuses disk worlds found sets targets) (λ disk. IsGenerated (project_of disk worlds found) sets targets)

-- a pattern is refused in generation, for words that are a request
abbrev pub IsRefusedFor : List Text → Declared → Worlds → Disk → EvalFault → Type 0
IsRefusedFor words found worlds disk fault =
    (request_fault found.registry words ≡ None) × Refuses disk worlds found (request_sets found.registry words) (target_words found.registry words) fault

abbrev pub Asks : List Text → Declared → Worlds → Outside → Outside → Result Made PlanStop → Type 0
Asks words found worlds = Does found (IsRefusedFor words found worlds) (λ disk. IsAsked (project_of disk worlds found) words)

-- ---- the tests

-- the tests of an answer: those that its plan asks for, where the load declared this
abbrev pub AreAsked : Declared → Result Made PlanStop → List (List ℕ × ℕ) → Type 0
AreAsked found (Ok made) tests = tests ≡ requested found (seen made).rows (seen made).steps (seen made).wanted
AreAsked found (Err stop) tests = tests ≡ []

-- What was asked of a project is handed on with its tests, or memory ran out at these.
pub record HandsOn (found : Declared) (asked result : Result Made PlanStop) (tests : List (List ℕ × ℕ)) : Type 0 where
  pub same : (result ≡ asked) ⊎ (result ≡ Err stops.OutOfMemory)
  pub tests_are : AreAsked found result tests

-- A project is asked in these worlds, with the main targets of its tests.
pub record AsksEquipped (words : List Text) (found : Declared) (worlds : Worlds) (from to : Outside) (result : Result Made PlanStop) (tests : List (List ℕ × ℕ)) : Type 0 where
  pub asks : Asks words (with_tests found) worlds from to result
  pub tests_are : AreAsked found result tests

-- A project is equipped for its tests, and then asked; or memory ran out before.
pub data AsksLoaded (words : List Text) (found : Declared) (worlds : Worlds) (from to : Outside) (result : Result Made PlanStop) (tests : List (List ℕ × ℕ)) : Type 0 where
  asks_after : (later : Worlds) → IsEquippedFor found.tests worlds later → AsksEquipped words found later from to result tests
      → AsksLoaded words found worlds from to result tests
  ran_out : result ≡ Err stops.OutOfMemory → to ≡ from → tests ≡ [] → AsksLoaded words found worlds from to result tests

-- a project is asked, and a load without one has its fault
abbrev pub GoesOn : List Text → Result Project LoadFault → Outside → Outside → Result Made PlanStop → List (List ℕ × ℕ) → Type 0
GoesOn words (Ok project) from to result tests = AsksLoaded words project.declared project.world from to result tests
GoesOn words (Err fault) from to result tests = (result ≡ Err (stop_of_load fault)) × (to ≡ from) × (tests ≡ [])
