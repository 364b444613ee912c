-- What the end of a step changes of what an update knows, and what is done after it.
use Rattle.std.specs.Prelude.{◌≡◌, ◌≢◌, ℕ, Bool, true, false, List, [], ◌∷◌, ◌++◌, Some, None, slice_set, Result, MatchResult}
use Rattle.std.specs.List.{Contains, AllByRecursion}
use Rattle.b2_host.specs.declared.children.ChildEvent.{ChildEvent}
use Rattle.b2_host.specs.declared.children.ChildEvent.TheVariants.{Done}
use Rattle.b2_host.specs.Disks.{Disk}
use Rattle.b2_host.specs.ChildProcesses.{BothTold}
use Rattle.b2_host.specs.Outside.{Outside, Read}
use Rattle.b2_host.specs.FileCalls.{log_path}
use Rattle.b2_host.specs.OutsideLaws.{Keeps}
use Rattle.b2_host.specs.ReadsAdded.{AddsReads}
use Rattle.b2_plan.specs.declared.step.Step.{Step}
use Rattle.b2_plan.specs.declared.plan.Plan.{Plan}
use Rattle.b2_plan.specs.Plans.{step_at, Apart, Makes}
use Rattle.b2_log.specs.declared.line.LogLine.{LogLine}
use Rattle.b2_log.specs.Good.{IsGood}
use Rattle.b2_log.specs.Finding.{find_record}
use Rattle.b2_runs.specs.Logs.{RecordsTrue}
use Rattle.b2_runs.specs.Staleness.{Update, making}
use Rattle.b2_runs.specs.Runs.{MayCome, IsRunSoFar}
use Rattle.b2_runs.specs.Soundness.{Distinguishes, IsSound, IsAllowedChange}
use Rattle.b2_runs.specs.FileReads.{ReadsOnce, ReadsLeaveLines, HaveLines}
use Rattle.b2_runs.specs.LogCourses.{BeginsWith, IsLogAfter, LacksNoLine, log_file}
use Rattle.b2_sched.specs.SchedulerCalls.{Settles, with_failure}
use Rattle.b2_facts.specs.declared.stop.FilesStop.{FilesStop}
use Rattle.b2_facts.specs.Stops.{StopTold}
use Rattle.b2_journal.specs.Notes.{HasLines}
use Rattle.b2_reach.specs.declared.sights.Sights.{Sights}
use Rattle.b2_reach.specs.Sightings.{IsTrueSight, AreLined}
use Rattle.b2_reach.specs.Laws.{IsUpdateOf}
use Rattle.b2_looks.specs.declared.looks.Looks.{Looks}
use Rattle.b2_looks.specs.UnderWay.{LooseAreBlank, IsUnderWay, AreTrueLooks, IsHalted, IsUpdateBy}

-- ---- over every host

-- The step ended, and is settled or failed from now on; its files are no longer kept, and nothing else changed.
pub record Finishes (i : ℕ) (well : Bool) (l k : Looks) : Type 0 where
  pub way : k.way ≡ l.way
  pub ran : k.ran.items ≡ slice_set l.ran.items i true
  pub ready : k.ready.items ≡ slice_set l.ready.items i None
  pub works : k.board.works ≡ l.board.works
  pub good : well ≡ true → Settles l.board.sched i k.board.sched
  pub bad : well ≡ false → k.board.sched ≡ with_failure l.board.sched i

-- Files were removed, and perhaps a line was appended to the log: nothing changed but files and the count of faults, which
-- tells whether the host failed.
pub record Clears {T : Type 0} (before after : Outside) (result : Result T FilesStop) : Type 0 where
  pub children : after.children ≡ before.children
  pub reads : after.reads ≡ before.reads
  pub failed_waits : after.failed_waits ≡ before.failed_waits
  pub faults : StopTold before after result
  pub keeps : Keeps before after

-- no file stands that did not stand before, but perhaps the log
abbrev pub StandsNoMore : Disk → Disk → Type 0
StandsNoMore before after = (path : List ℕ) → path ≢ log_path → before.now path ≡ None → after.now path ≡ None

-- a file stands at each of these paths
abbrev pub AllStand : List (List ℕ) → Disk → Type 0
AllStand paths disk = (path : List ℕ) → Contains paths path → disk.now path ≢ None

-- a file stands at each output of the step
abbrev pub OutputsStand : List Step → ℕ → Disk → Type 0
OutputsStand steps i disk = (step : Step) (out : List ℕ) → step_at steps i ≡ Some step → Contains step.outs out
    → disk.now out ≡ None → ⊥

-- ---- over a host whose files are visible

-- A step has ended, and this is all that has happened since nothing was lacking: no line was noted for the end yet, and of a
-- bad one no output was removed. Else it is as in an update that is under way.
pub record HasEnded (u : Update) (events : List ChildEvent) (i : ℕ) (well : Bool) (first : List LogLine)
    (reads : List Read) (disk : Disk) (s : Sights) : Type 0 where
  pub apart : Apart u.build.steps u.build.roots
  pub update : IsUpdateOf u.build.steps u.build.roots u
  pub run : IsRunSoFar u events
  pub may_come : MayCome u events (Done i well)
  pub sound : IsSound u (events ++ Done i well ∷ []) disk
  pub begins : BeginsWith u first
  pub tells : (outs : List (List ℕ)) → find_record outs first ≡ find_record outs u.log
  pub first_true : u.all ≡ false → RecordsTrue (making u) disk.past first
  pub course : IsLogAfter u disk.now first events s.journal
  pub lacks_none : LacksNoLine u events disk.now s.journal
  pub good : AllByRecursion IsGood s.journal
  pub file : HasLines (log_file u.build.folder) disk.now s.journal
  pub once : ReadsOnce u (events ++ Done i well ∷ []) disk.past reads
  pub leave : ReadsLeaveLines u disk.past reads
  pub have : HaveLines u (events ++ Done i well ∷ []) disk.past disk.now s.journal reads
  pub sight : IsTrueSight u disk s
  pub lined : AreLined s.facts s.journal
  pub blank : LooseAreBlank (events ++ Done i well ∷ []) s.facts
  pub by_digest : u.by_digest ≡ s.by_digest

-- after a call an update is under way after these events, with more reads, and P holds of the result; or it has stopped
pub record EndGoesOn {T : Type 0} (u : Update) (events : List ChildEvent) (first : List LogLine) (reads : List Read)
    (P : T → Type 0) (old new : Outside) (disk : Disk) (l : Looks) (t : Sights) (result : Result T FilesStop) : Type 0 where
  pub more : List Read
  pub adds : AddsReads more old.reads new.reads
  pub after : MatchResult result
      (λ x. P x × IsUnderWay u events first (reads ++ more) disk t × AreTrueLooks u events disk t l)
      (λ stop. IsHalted u events (reads ++ more) disk t.facts stop)

-- what noting the record of a step tells that ended well: it left each output
abbrev pub MadeTold : Plan → Looks → ℕ → Outside → Sights → Outside → Sights → Result Bool FilesStop → Type 0
MadeTold plan l i old s new t result = BothTold (λ before after. (u : Update) (events : List ChildEvent)
    (first : List LogLine) (reads : List Read) → IsUpdateBy plan l u → Distinguishes u after.past
    → HasEnded u events i true first reads before s → AreTrueLooks u (events ++ Done i true ∷ []) before s l
    → EndGoesOn u (events ++ Done i true ∷ []) first reads (λ left. left ≡ true) old new after l t result)
    old.disk new.disk

-- none of the step's outputs stands
abbrev pub OutputsGone : List Step → ℕ → Disk → Type 0
OutputsGone steps i disk = (step : Step) (path : List ℕ) → Makes steps i step path → disk.now path ≡ None

-- What clearing away a failed step tells: its outputs are gone, and nothing else changed but the log.
abbrev pub ClearTold : Plan → Looks → ℕ → Outside → Sights → Outside → Sights → Result (Unit {0}) FilesStop → Type 0
ClearTold plan l i old s new t result = BothTold (λ before after. (u : Update) (events : List ChildEvent)
    (first : List LogLine) (reads : List Read) → IsUpdateBy plan l u → Distinguishes u after.past
    → HasEnded u events i false first reads before s → AreTrueLooks u (events ++ Done i false ∷ []) before s l
    → IsAllowedChange u (events ++ Done i false ∷ []) before after
    × EndGoesOn u (events ++ Done i false ∷ []) first reads (λ (x : Unit {0}). OutputsGone plan.steps i after) old new
    after l t result) old.disk new.disk
