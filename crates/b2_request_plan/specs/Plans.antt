-- What the code plans, as the plan of the definition.
use Rattle.std.specs.Prelude.{◌≡◌, ℕ, Bool, List, Option, Some, Result, Ok, Err, IfOk, IfErr, map}
use Rattle.std.specs.List.{flat_map}
use Rattle.b2_plan.specs.Plans.{Apart}
use Rattle.b2_plan.specs.declared.step.Step.{Step}
use Rattle.b2_props.specs.declared.request.Request.{Request}
use Rattle.b2_declared.specs.declared.whole.Declared.{Declared}
use Rattle.b2_evaluator.specs.Answers.{Answers}
use Rattle.b2_references.specs.Requests.{asked}
use Rattle.b2_references.specs.declared.asked.AskedPiece.{AskedPiece}
use Rattle.b2_generate.specs.Answers.{HaveSets}
use Rattle.b2_generate.specs.LoadedProjects.{LoadedProject}
use Rattle.b2_generate.specs.Nodes.{entry_in}
use Rattle.b2_generate.specs.Planning as planning
use Rattle.b2_generate.specs.Planning.{Plans, line, first_rows}
use Rattle.b2_generate.specs.Places.{rows_at}
use Rattle.b2_generate.specs.ToldOutcomes.{IsRefusal, Leaves, loaded_of}
use Rattle.b2_generate.specs.Wholes.{whole_fault, IsWhole}
use Rattle.b2_generate.specs.declared.fault.GenFault.{GenFault}
use Rattle.b2_generate.specs.declared.fault.GenFault.TheVariants as faults
use Rattle.b2_generate.specs.declared.node.Node.{Node}
use Rattle.b2_request_plan.specs.declared.plan.PlanAnswer.{PlanAnswer}
use Rattle.b2_request_plan.specs.TableRows.{lines_of, rows_of}
use Rattle.b2_request_plan.specs.declared.planned.Planned.{Planned}

-- ---- a plan with its table

abbrev pub seen : Planned → planning.Planned
seen p = record { steps = p.plan.steps; wanted = p.plan.wanted; roots = p.plan.roots; rows = rows_of p.table; table = lines_of p.table }

-- what the code answers is the plan of a request, or why it has none, unless that is a fault of the host or out of memory
abbrev pub IsPlanned : {E : Type 0} → LoadedProject E → (E → Bool) → (E → Bool) → Request → Result Planned (GenFault E) → Type 0
IsPlanned l is_host is_out request (Ok p) = Plans l request.sets request.targets (Ok (seen p))
IsPlanned l is_host is_out request (Err fault) = IsRefusal is_host is_out (λ why. Plans l request.sets request.targets (Err why)) fault

-- so it is where the project's own text is told
abbrev pub IsPlanOf : {S E : Type 0} → (S → Option (Answers E)) → (E → Bool) → (E → Bool) → Declared → List (List ℕ) → Request → S → Result Planned (GenFault E) → Type 0
IsPlanOf {S} {E} answers is_host is_out d roots request evaluator result =
    (told : Answers E) → answers evaluator ≡ Some told → IsPlanned (loaded_of d roots told) is_host is_out request result

-- ---- the plan of what was generated at some places

-- the files that the node at a place gives
abbrev pub wanted_at : List Node → ℕ → List (List ℕ)
wanted_at nodes place = map (λ e. e.path) (entry_in nodes place).1.supply.entries

abbrev pub planned_at : Declared → List (List ℕ) → List Node → List ℕ → List Step → planning.Planned
planned_at d roots nodes places steps = record {
  steps = steps;
  wanted = flat_map (wanted_at nodes) places;
  roots = roots;
  rows = first_rows (flat_map (rows_at nodes) places);
  table = map (line d) (first_rows (flat_map (rows_at nodes) places));
}

-- ---- all that is promised

-- what the code answers, where this was generated, or refused
abbrev pub IsResultOf : {E : Type 0} → Declared → List (List ℕ) → List Node → List Step → Result (List ℕ) (GenFault E) → Result Planned (GenFault E) → Type 0
IsResultOf d roots nodes steps (Ok places) (Ok p) = (seen p ≡ planned_at d roots nodes places steps) × Apart p.plan.steps p.plan.roots
IsResultOf d roots nodes steps (Ok places) (Err fault) = fault ≡ faults.OutOfMemory
IsResultOf d roots nodes steps (Err why) result = result ≡ Err (whole_fault why)

pub record IsAnswered {S E K : Type 0} (answers : S → Option (Answers E)) (kept : S → K) (faults : S → ℕ) (is_host is_out : E → Bool) (CanFault : K → E → Type 0)
    (d : Declared) (roots : List (List ℕ)) (request : Request) (old new : S) (result : Result Planned (GenFault E)) : Type 0 where
  pub told : IsPlanOf answers is_host is_out d roots request old result
  pub apart : IfOk result (λ p. Apart p.plan.steps p.plan.roots)
  pub same_roots : IfOk result (λ p. p.plan.roots ≡ roots)
  pub sets : IfOk result (λ p. HaveSets d (rows_of p.table))
  pub leaves : Leaves answers kept faults is_host is_out CanFault old new result
  pub whole : IfErr result IsWhole

module _ {S E K : Type 0} (answers : S → Option (Answers E)) (kept : S → K) (faults : S → ℕ) (is_host is_out : E → Bool) (CanFault : K → E → Type 0) where
  abbrev pub AnswersRequest : Declared → List (List ℕ) → Request → S → PlanAnswer S E → Type 0
  AnswersRequest d roots request old a = IsAnswered answers kept faults is_host is_out CanFault d roots request old a.evaluator a.result

  -- it answers each request that asks for these pieces
  abbrev pub AnswersPieces : Declared → List (List ℕ) → List AskedPiece → S → PlanAnswer S E → Type 0
  AnswersPieces d roots pieces old a = (request : Request) → pieces ≡ asked d request.sets request.targets → AnswersRequest d roots request old a

  -- it answers each request of each project
  abbrev pub AnswersEach : S → PlanAnswer S E → Type 0
  AnswersEach old a = (d : Declared) (roots : List (List ℕ)) (request : Request) → AnswersRequest d roots request old a
