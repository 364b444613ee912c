-- Which files are listed as missing, by what is known of files.
use Rattle.std.specs.Prelude.{◌≡◌, ◌⊎◌, ℕ, Bool, List, [], Option, Some, None, Result, if◌then◌else◌}
use Rattle.std.specs.Option.{IfSome}
use Rattle.std.specs.List.{Contains, AllPairs}
use Rattle.b2_host.specs.Outside.{Outside}
use Rattle.b2_base.specs.Bytes.{Before}
use Rattle.b2_plan.specs.declared.step.Step.{Step}
use Rattle.b2_plan.specs.declared.plan.Plan.{Plan}
use Rattle.b2_runs.specs.Outcomes.{IsListOf}
use Rattle.b2_sched.specs.Schedules.{Schedule, IsFailed, IsSkipped, QuitsNow, GoesOn, NoneStuck}
use Rattle.b2_facts.specs.declared.stop.FilesStop.{FilesStop}
use Rattle.b2_facts.specs.declared.file_facts.FileFacts.{FileFacts}
use Rattle.b2_facts.specs.Facts.{Knowledge, IsFile, path_at}
use Rattle.b2_facts.specs.Growth.{Learns, OfNone}
use Rattle.b2_facts.specs.Truth.{StaysTrue}
use Rattle.b2_facts.specs.Asks.{IsGivenBy, IsMissingAt}
use Rattle.b2_board.specs.declared.work.Work.{Work}
use Rattle.b2_board.specs.Boards.{work_at}
use Rattle.b2_looks.specs.declared.looks.Looks.{Looks}
use Rattle.b2_endings.specs.declared.failed_lists.FailedLists.{FailedLists}
use Rattle.b2_endings.specs.Endings.{StopLooks}

-- Files were asked for: nothing changes on the host but the count of faults, where it fails. Nothing is learned of
-- outputs, and what is known stays true.
pub record AsksFiles {T : Type 0} (steps : List Step) (roots : List (List ℕ)) (f : Knowledge) (x : Outside)
    (g : Knowledge) (y : Outside) (result : Result T FilesStop) : Type 0 where
  pub host : StopLooks x y result
  pub learns : Learns steps roots OfNone f g
  pub told : IfSome x.disk (λ disk. StaysTrue steps roots disk.now f g)

-- it is known of the file at a path that it is given, or else it is listed
pub record IsGivenOrListed (f : Knowledge) (listed : List (List ℕ)) (path : List ℕ) : Type 0 where
  pub number : ℕ
  pub file : FileFacts
  pub is_file : IsFile f number path file
  pub so : IsGivenBy file ⊎ Contains listed path

-- Those of these paths were added to a list at which no file is given.
pub record ListsMissing (Asked : List ℕ → Type 0) (f : Knowledge) (before after : List (List ℕ)) : Type 0 where
  pub kept : (path : List ℕ) → Contains before path → Contains after path
  pub each : (path : List ℕ) → Contains after path → Contains before path ⊎ (Asked path × IsMissingAt f path)
  pub asked : (path : List ℕ) → Asked path → IsGivenOrListed f after path

-- the path has one of these numbers
abbrev pub IsPathOf : Knowledge → List ℕ → List ℕ → Type 0
IsPathOf f numbers path = (n : ℕ) × Contains numbers n × (path_at f n ≡ Some path)

-- the members of a step, by the work on it, where it lacks a file
abbrev pub lacking_in : Option Work → List ℕ
lacking_in None = []
lacking_in (Some work) = if work.reach.lacks then work.reach.members else []

-- the path is that of a member of one of these steps, which lacks some
abbrev pub IsOfLacking : Knowledge → List (Option Work) → List ℕ → List ℕ → Type 0
IsOfLacking f works numbers path = (i : ℕ) × Contains numbers i × IsPathOf f (lacking_in (work_at works i)) path

-- no step is stuck: the update quits, or something goes on, or no needed step is
abbrev pub NoneIsStuck : Schedule → Bool → Type 0
NoneIsStuck s quit = QuitsNow s quit ⊎ GoesOn s ⊎ NoneStuck s

-- What is named where nothing goes on: the steps that failed and were skipped, and the missing files. These are wanted, or
-- members of a skipped step that lacks some.
pub record AreNamed (plan : Plan) (l : Looks) (quit : Bool) (f g : Knowledge) (lists : FailedLists) : Type 0 where
  pub failed : IsListOf (IsFailed l.board.sched) lists.failed
  pub skipped : IsListOf (IsSkipped l.board.sched quit) lists.skipped
  pub rising : AllPairs Before lists.missing
  pub missing : ListsMissing
      (λ path. IsOfLacking f l.board.works.items lists.skipped path ⊎ Contains plan.wanted path) g [] lists.missing
