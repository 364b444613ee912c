-- What is told of a survey that is whole.
use Rattle.std.specs.Prelude.{◌≡◌, ⊤, ℕ, Bool, true, false, List, [], ◌∷◌, ◌++◌, map, Some, None, Result}
use Rattle.std.specs.List.{Contains}
use Rattle.b2_host.specs.Outside.{Outside}
use Rattle.b2_plan.specs.declared.plan.Plan.{Plan}
use Rattle.b2_plan.specs.declared.step.Step.{Step}
use Rattle.b2_plan.specs.Plans.{step_at}
use Rattle.b2_log.specs.declared.line.LogLine.{LogLine}
use Rattle.b2_log.specs.Finding.{find_record}
use Rattle.b2_sched.specs.Schedules.{IsNeeded, CanLook}
use Rattle.b2_runs.specs.Outcomes.{IsListOf}
use Rattle.b2_facts.specs.Facts.{Knowledge, IsAbout, path_at}
use Rattle.b2_facts.specs.declared.stop.FilesStop.{FilesStop}
use Rattle.b2_facts.specs.declared.stop.FilesStop.TheVariants as stops
use Rattle.b2_board.specs.Boards.{members_of}
use Rattle.b2_reach.specs.Reaches.{IsMissingMember}
use Rattle.b2_explain.specs.declared.cause.Cause.{Cause}
use Rattle.b2_explain.specs.declared.cause.Why.{Why}
use Rattle.b2_explain.specs.declared.fault.ExplainFault.{ExplainFault}
use Rattle.b2_explain.specs.declared.fault.ExplainFault.TheVariants as faults
use Rattle.b2_explain.specs.declared.survey.Judged.{Judged}
use Rattle.b2_explain.specs.declared.survey.Survey.{Survey}
use Rattle.b2_explain.specs.SeenCauses.{IsCauseBy, IsOpenCause}
use Rattle.b2_explain.specs.Surveys.{AreSurveyed, IsTrueSurvey, judged_at}
use Rattle.b2_explain.specs.Whys.{step_in}
use Rattle.b2_explain.specs.Explained.{TrueEntries, ToldOr}

-- a survey stopped with this fault; where no memory was left to tell it, with that
abbrev pub IsSurveyFault : Knowledge → FilesStop → ExplainFault → Type 0
IsSurveyFault f stops.Host fault = fault ≡ faults.Host
IsSurveyFault f stops.OutOfMemory fault = fault ≡ faults.OutOfMemory
IsSurveyFault f (stops.TooBig number size) faults.Host = ⊥
IsSurveyFault f (stops.TooBig number size) (faults.TooBig path bytes) = (path_at f number ≡ Some path) × (bytes ≡ size)
IsSurveyFault f (stops.TooBig number size) faults.OutOfMemory = ⊤

-- where files are visible and the lines of the log are true, so is what is found
abbrev pub SurveyEnds : Plan → Bool → List LogLine → Outside → Result Survey ExplainFault → Type 0
SurveyEnds plan all log before result = TrueEntries plan all log before (λ u disk. ToldOr (IsTrueSurvey u disk) u disk result)

-- Of a survey that is whole this is a needed step.
pub record IsNeededStep (plan : Plan) (all : Bool) (y : Survey) (step : Step) (number : ℕ) : Type 0 where
  pub surveyed : AreSurveyed plan all 0 y
  pub about : IsAbout plan.steps plan.roots y.sights.facts
  pub whole : (i : ℕ) → CanLook y.board.sched i → ⊥
  pub at : step_at plan.steps number ≡ Some step
  pub needed : IsNeeded y.board.sched number

-- this needed step was not judged: it lacks a file, or waits for one
pub record IsOpenStep (plan : Plan) (all : Bool) (y : Survey) (number : ℕ) : Type 0 where
  pub step : Step
  pub of_step : IsNeededStep plan all y step number
  pub unjudged : judged_at y number ≡ None

-- whether a member is missing is told
pub data IsLackTold (f : Knowledge) (members : List ℕ) : Bool → Type 0 where
  lacks : (n : ℕ) → IsMissingMember f members n → IsLackTold f members true
  lacks_none : ((n : ℕ) → IsMissingMember f members n → ⊥) → IsLackTold f members false

-- This is the cause of a step by what was found of it: of one that was judged that of its first point, and else the first file that
-- it lacks, or waits for.
pub data IsFoundCause (plan : Plan) (y : Survey) (number : ℕ) (cause : Cause) : Type 0 where
  judged : (judged : Judged) (step : Step) → judged_at y number ≡ Some judged → step_at plan.steps number ≡ Some step
      → IsCauseBy judged.numbers (find_record step.outs y.sights.journal) y.sights.facts judged.point cause
      → IsFoundCause plan y number cause
  open_still : (lacks : Bool) → judged_at y number ≡ None → IsLackTold y.sights.facts (members_of y.board number) lacks
      → IsOpenCause y.board.sched y.sights.facts (members_of y.board number) lacks cause → IsFoundCause plan y number cause

-- the cause of a step is told after those before it, where the step is needed
pub data AddsCause (plan : Plan) (y : Survey) (number : ℕ) (before after : List Why) : Type 0 where
  told : (cause : Cause) → IsNeeded y.board.sched number → IsFoundCause plan y number cause
      → after ≡ before ++ record { step = number; cause = cause } ∷ [] → AddsCause plan y number before after
  passed : (IsNeeded y.board.sched number → ⊥) → after ≡ before → AddsCause plan y number before after

-- the needed steps are told, in order of numbers, each with its cause
pub record AreFoundCauses (plan : Plan) (y : Survey) (whys : List Why) : Type 0 where
  pub steps : IsListOf (IsNeeded y.board.sched) (map step_in whys)
  pub each : (why : Why) → Contains whys why → IsFoundCause plan y why.step why.cause
