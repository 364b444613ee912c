-- Laws of causes and of cleaning.
use Rattle.std.specs.Prelude.{◌≡◌, ◌↔◌, ℕ, ◌≤◌, Bool, true, false, List, [], ◌∷◌, ◌++◌, length, take, map, Some, None}
use Rattle.std.specs.List.{Contains, AllByRecursion, filter}
use Rattle.b2_host.specs.declared.children.ChildEvent.{ChildEvent}
use Rattle.b2_host.specs.declared.children.ChildEvent.TheVariants.{Start, Done}
use Rattle.b2_host.specs.Disks.{Disk}
use Rattle.b2_plan.specs.declared.plan.Plan.{Plan}
use Rattle.b2_plan.specs.declared.step.Step.{Step}
use Rattle.b2_plan.specs.Plans.{Apart, step_at}
use Rattle.b2_runs.specs.LogFiles.{IsLogIn}
use Rattle.b2_runs.specs.Staleness.{Update}
use Rattle.b2_runs.specs.Events.{is_start}
use Rattle.b2_runs.specs.Runs.{CanStart, IsRunSoFar, IsRun}
use Rattle.b2_runs.specs.Outcomes.{IsSettledStep}
use Rattle.b2_sched.specs.Schedules.{CanLook}
use Rattle.b2_sched.specs.Sound.{IsSound}
use Rattle.b2_explain.specs.declared.cause.Cause.{Cause}
use Rattle.b2_explain.specs.declared.cause.Cause.TheVariants as causes
use Rattle.b2_explain.specs.declared.cause.Why.{Why}
use Rattle.b2_explain.specs.declared.survey.Survey.{Survey}
use Rattle.b2_explain.specs.Entries.{AreTrueLines}
use Rattle.b2_explain.specs.Whys.{HasProperRecords, IsCause, IsWhy, IsExplained, calls, step_in}
use Rattle.b2_explain.specs.Surveys.{AreSurveyed, IsEntry, IsTrueSurvey}
use Rattle.b2_explain.specs.Found.{AreFoundCauses}
use Rattle.b2_explain.specs.Checks.{IsCheckedWhy}
use Rattle.b2_explain.specs.Cleaning.{IsCleaned}

-- ---- the log

-- An update that begins with the lines of the log's file has proper records, which the laws of causes ask for.
abbrev pub LogIsProper : Type 0
LogIsProper = (u : Update) → IsLogIn u.build.folder u.log → HasProperRecords u

-- ---- causes

-- a step has one cause
abbrev pub CauseIsOne : Type 0
CauseIsOne = (u : Update) (step : Step) (cause other : Cause) → HasProperRecords u → IsCause u step cause → IsCause u step other
    → cause ≡ other

-- the needed steps are explained in one way
abbrev pub ExplanationIsOne : Type 0
ExplanationIsOne = (u : Update) (whys others : List Why) → HasProperRecords u → IsExplained u whys → IsExplained u others
    → whys ≡ others

-- where an update begins that judges by stamps, the cause of a needed step calls for a start exactly where the step can start
abbrev pub CauseTellsStart : Type 0
CauseTellsStart = (u : Update) (why : Why) → Apart u.build.steps u.build.roots → HasProperRecords u → u.by_digest ≡ false
    → 1 ≤ u.jobs → IsWhy u why → (calls why.cause ≡ true) ↔ CanStart u [] why.step

-- a needed step is fresh, by its cause, exactly where it is settled
abbrev pub FreshIsSettled : Type 0
FreshIsSettled = (u : Update) (why : Why) → Apart u.build.steps u.build.roots → HasProperRecords u → u.by_digest ≡ false
    → IsWhy u why → (why.cause ≡ causes.Fresh) ↔ IsSettledStep u [] why.step

-- whether the cause of a step calls for a start
abbrev pub calls_in : Why → Bool
calls_in why = calls why.cause

-- the steps whose causes call for a start
abbrev pub called : List Why → List ℕ
called whys = map step_in (filter calls_in whys)

-- these steps start, in order
abbrev pub starts : List ℕ → List ChildEvent
starts steps = map Start steps

-- What an update with 64 jobs starts before the first step is done: the steps whose causes call for it, in order, and no more than
-- 64. Where a step is done all of these were started. Where none ever is, there are none.
abbrev pub FirstStarts : Type 0
FirstStarts = (u : Update) (whys : List Why) (events : List ChildEvent) → Apart u.build.steps u.build.roots → HasProperRecords u
    → u.by_digest ≡ false → u.jobs ≡ 64 → IsExplained u whys → AllByRecursion (λ event. is_start event ≡ true) events
    → (IsRunSoFar u events → (events ≡ starts (take (length events) (called whys))) × (length events ≤ 64))
    × ((i : ℕ) (well : Bool) → IsRunSoFar u (events ++ Done i well ∷ []) → events ≡ starts (take 64 (called whys)))
    × (IsRun u events → called whys ≡ [])

-- ---- what is found

-- a survey is whole, and what it has found is true where this update begins
pub record IsWholeSurvey (u : Update) (disk : Disk) (plan : Plan) (y : Survey) : Type 0 where
  pub entry : IsEntry plan u.all u
  pub folder : u.build.folder ≡ disk.now
  pub lines : AreTrueLines u disk.past
  pub surveyed : AreSurveyed plan u.all 0 y
  pub sound : IsSound y.board.sched
  pub whole : (i : ℕ) → CanLook y.board.sched i → ⊥
  pub truth : IsTrueSurvey u disk y

-- what is found of such a survey is so
abbrev pub FoundIsExplained : Type 0
FoundIsExplained = (u : Update) (disk : Disk) (plan : Plan) (y : Survey) (whys : List Why) → IsWholeSurvey u disk plan y
    → AreFoundCauses plan y whys → IsExplained u whys

-- so a claim is right exactly where it is by what is known of files
abbrev pub CheckedIsWhy : Type 0
CheckedIsWhy = (u : Update) (disk : Disk) (plan : Plan) (y : Survey) (why : Why) → IsWholeSurvey u disk plan y
    → IsCheckedWhy plan u.all y why ↔ IsWhy u why

-- ---- cleaning

-- a step is to run by the first or the second point of staleness: all run, it is an always-step or a notfile step, or it lacks an
-- output
pub data IsFirstPoint (u : Update) (step : Step) : Type 0 where
  runs_all : u.all ≡ true → IsFirstPoint u step
  is_always : step.always ≡ true → IsFirstPoint u step
  is_notfile : step.notfile ≡ true → IsFirstPoint u step
  lacks : (out : List ℕ) → Contains step.outs out → u.build.folder out ≡ None → IsFirstPoint u step

-- after cleaning each step of the plan is to run by these points, in an update that begins with the files as they were left
abbrev pub CleanedIsStale : Type 0
CleanedIsStale = (u : Update) (before after : Disk) (i : ℕ) (step : Step) → Apart u.build.steps u.build.roots
    → IsCleaned u.build.steps before after → u.build.folder ≡ after.now → step_at u.build.steps i ≡ Some step
    → IsFirstPoint u step
