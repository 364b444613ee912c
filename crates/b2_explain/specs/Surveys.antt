-- What is found of the steps of a plan where nothing has happened yet.
use Rattle.std.specs.Prelude.{◌≡◌, ◌⊎◌, ℕ, ◌+◌, Bool, false, List, [], length, Option, Some, None, slice_index_or, Result, MatchResult}
use Rattle.b2_host.specs.Disks.{Disk}
use Rattle.b2_host.specs.Outside.{Outside}
use Rattle.b2_host.specs.ChildProcesses.{BothTold}
use Rattle.b2_plan.specs.declared.plan.Plan.{Plan}
use Rattle.b2_plan.specs.declared.step.Step.{Step}
use Rattle.b2_plan.specs.Plans.{step_at, Apart}
use Rattle.b2_log.specs.declared.line.Record.{Record}
use Rattle.b2_log.specs.Finding.{find_record}
use Rattle.b2_log.specs.Good.{IsRising}
use Rattle.b2_runs.specs.Staleness.{Update}
use Rattle.b2_runs.specs.FileReads.{IsTooBig}
use Rattle.b2_runs.specs.Outcomes.{IsSettledStep}
use Rattle.b2_sched.specs.NumberSets.{Has}
use Rattle.b2_sched.specs.Schedules.{Schedule, IsStep, IsUnjudged, IsStale, IsSettled}
use Rattle.b2_facts.specs.Facts.{Knowledge, path_at}
use Rattle.b2_facts.specs.declared.stop.FilesStop.{FilesStop}
use Rattle.b2_facts.specs.declared.stop.FilesStop.TheVariants as stops
use Rattle.b2_reach.specs.Sightings.{IsTrueSight}
use Rattle.b2_reach.specs.Laws.{IsUpdateOf}
use Rattle.b2_verdicts.specs.declared.point.Point.{Point}
use Rattle.b2_verdicts.specs.Points.{IsByStamps}
use Rattle.b2_board.specs.Boards.{IsBoard, members_of}
use Rattle.b2_looks.specs.Numbers.{AreNumbersBy}
use Rattle.b2_explain.specs.declared.survey.Judged.{Judged}
use Rattle.b2_explain.specs.declared.survey.Survey.{Survey}
use Rattle.b2_explain.specs.Entries.{AreTrueLines}

-- ---- over every host

-- what was found of the step with a number, where it was judged
abbrev pub judged_at : Survey → ℕ → Option Judged
judged_at y i = slice_index_or y.judged.items i None

-- a step is stale, by the schedule, exactly where it has a point
abbrev pub IsStateOf : Schedule → ℕ → Option Point → Type 0
IsStateOf s i None = IsSettled s i
IsStateOf s i (Some point) = IsStale s i

-- The step was judged: these are the files of what it reads, and this is its first point by stamps.
pub record IsJudged (plan : Plan) (all : Bool) (y : Survey) (i : ℕ) (judged : Judged) : Type 0 where
  pub step : Step
  pub at : step_at plan.steps i ≡ Some step
  pub files : AreNumbersBy plan.steps y.ran.items y.sights.facts step (members_of y.board i) judged.numbers
  pub first : IsByStamps all step judged.numbers (find_record step.outs y.sights.journal) y.sights.facts judged.point
  pub state : IsStateOf y.board.sched i judged.point

-- What holds of the steps, but perhaps of the one that is being looked at (0 where none is).
pub record AreSurveyed (plan : Plan) (all : Bool) (but : ℕ) (y : Survey) : Type 0 where
  pub board : IsBoard plan but y.sights.facts y.board
  pub jobs : y.board.sched.jobs ≡ 64
  pub size : length y.judged.items ≡ length plan.steps + 1
  pub ran_size : length y.ran.items ≡ length plan.steps + 1
  pub none_ran : (i : ℕ) → Has y.ran.items i → ⊥
  pub way : y.sights.by_digest ≡ false
  pub proper : (outs : List (List ℕ)) (r : Record) → find_record outs y.sights.journal ≡ Some r → IsRising r.ins
  pub each : (i : ℕ) → IsStep y.board.sched i → IsUnjudged y.board.sched i ⊎ ((judged : Judged)
      × (judged_at y i ≡ Some judged) × IsJudged plan all y i judged)
  pub unjudged : (i : ℕ) → IsUnjudged y.board.sched i → judged_at y i ≡ None

-- the lines of the log stay, and what was asked of the host changed nothing but the reads and the count of faults
abbrev pub IsStill : Outside → Outside → Type 0
IsStill before after = after ≡ record before { reads = after.reads; faults = after.faults }

-- ---- over a host whose files are visible

-- the update is one of this plan, with 64 jobs, that judges by stamps
pub record IsEntry (plan : Plan) (all : Bool) (u : Update) : Type 0 where
  pub update : IsUpdateOf plan.steps plan.roots u
  pub wanted : u.build.wanted ≡ plan.wanted
  pub apart : Apart u.build.steps u.build.roots
  pub all_is : u.all ≡ all
  pub by_stamps : u.by_digest ≡ false
  pub jobs : u.jobs ≡ 64

-- What is known of files is true where the update begins, the lines that are looked up tell what its log tells, and what counts as
-- settled is settled there.
pub record IsTrueSurvey (u : Update) (disk : Disk) (y : Survey) : Type 0 where
  pub sight : IsTrueSight u disk y.sights
  pub tells : (outs : List (List ℕ)) → find_record outs y.sights.journal ≡ find_record outs u.log
  pub settled : (i : ℕ) → IsSettled y.board.sched i → IsSettledStep u [] i

-- a file that is too big to be scanned is one that a needed step reads
abbrev pub IsStopOf : Update → Disk → Knowledge → FilesStop → Type 0
IsStopOf u disk f stops.Host = Unit {0}
IsStopOf u disk f stops.OutOfMemory = Unit {0}
IsStopOf u disk f (stops.TooBig number size) = (path : List ℕ) × (path_at f number ≡ Some path) × IsTooBig u [] disk.now path size

-- what a survey tells that goes on, or stops
abbrev pub SurveyTold : {T : Type 0} → Plan → Bool → Outside → Survey → Outside → Survey → Result T FilesStop → Type 0
SurveyTold plan all old y new z result = BothTold (λ disk later. (u : Update) → IsEntry plan all u
    → u.build.folder ≡ disk.now → AreTrueLines u disk.past → IsTrueSurvey u disk y
    → MatchResult result (λ x. IsTrueSurvey u disk z) (IsStopOf u disk z.sights.facts)) old.disk new.disk
