-- What holds of an update between two events, over a host whose files are visible.
use Rattle.std.specs.Prelude.{◌≡◌, ◌⊎◌, ℕ, Bool, List, [], ◌∷◌, ◌++◌, Some, IfSome, ⊤, count_by, Result, MatchResult}
use Rattle.b2_host.specs.declared.children.ChildEvent.{ChildEvent}
use Rattle.b2_host.specs.declared.children.ChildEvent.TheVariants.{Done}
use Rattle.b2_host.specs.Disks.{Folder, Disk}
use Rattle.b2_host.specs.ChildProcesses.{Given, BothTold}
use Rattle.b2_host.specs.Outside.{Read}
use Rattle.b2_host.specs.ReadsAdded.{AddsReads}
use Rattle.b2_plan.specs.declared.plan.Plan.{Plan}
use Rattle.b2_log.specs.declared.line.LogLine.{LogLine}
use Rattle.b2_runs.specs.Staleness.{Update}
use Rattle.b2_runs.specs.Runs.{AreGivenClosures}
use Rattle.b2_runs.specs.Outcomes.{LeavesNothing}
use Rattle.b2_runs.specs.Soundness.{Distinguishes, AreAtWork}
use Rattle.b2_runs.specs.FileReads.{IsTooBig}
use Rattle.b2_runs.specs.Afterwards.{NoneDoneOlder}
use Rattle.b2_runs.specs.Reports.{is_good_end, event_lines, TellsStarts}
use Rattle.b2_runs.specs.Moments.{Moment}
use Rattle.b2_runs.specs.UpdateAnswers.{StopsWithLog}
use Rattle.b2_drain.specs.Drains.{Made, HasStopped}
use Rattle.b2_facts.specs.declared.stop.FilesStop.TheVariants as files
use Rattle.b2_facts.specs.Facts.{Knowledge, path_at}
use Rattle.b2_reach.specs.declared.sights.Sights.{Sights}
use Rattle.b2_looks.specs.declared.looks.Looks.{Looks}
use Rattle.b2_looks.specs.Looks.{Follows}
use Rattle.b2_looks.specs.UnderWay.{IsUnderWay, AreTrueLooks, IsUpdateBy}
use Rattle.b2_turns.specs.Ends.{HasEnded}
use Rattle.b2_endings.specs.Writings.{Adds}
use Rattle.b2_update.specs.declared.run.Run.{Run}
use Rattle.b2_update.specs.declared.stop.UpdateStop.{UpdateStop}
use Rattle.b2_update.specs.declared.stop.UpdateStop.TheVariants as stops

-- the update is one of this plan, asked for so, over a host that makes files so
pub record IsUpdateHere (plan : Plan) (made : Made) (run : Run) (u : Update) : Type 0 where
  pub by : IsUpdateBy plan run.looks u
  pub quit : u.quit ≡ run.quit
  pub made_is : u.build.made ≡ made

-- What has happened since entry: these events, each start with what it was given. What runs is at work, no output of a failed
-- step stands, and no output that was made is older than what it was made of.
pub record HasRun (u : Update) (entry here : Moment) (events : List ChildEvent) (now : Folder) : Type 0 where
  pub are : here.host.children.events ≡ entry.host.children.events ++ events
  pub given : List Given
  pub given_are : IfSome entry.host.children.given (λ list. here.host.children.given ≡ Some (list ++ given))
  pub given_closure : AreGivenClosures u events given
  pub at_work : AreAtWork u events here.host.children.running
  pub none_older : NoneDoneOlder u events now

-- An update is under way, and what is known of its steps is so in the run. The lines of its events were written.
pub record StandsInRun (u : Update) (entry here : Moment) (sights : Sights) (looks : Looks) (disk : Disk)
    (events : List ChildEvent) : Type 0 where
  pub ran : HasRun u entry here events disk.now
  pub gone : LeavesNothing u events disk.now []
  pub first : List LogLine
  pub reads : List Read
  pub reads_are : AddsReads reads entry.host.reads here.host.reads
  pub under_way : IsUnderWay u events first reads disk sights
  pub true_looks : AreTrueLooks u events disk sights looks
  pub written : Adds (event_lines u.build.steps events) entry.out.written here.out.written

-- The schedule follows the events, and so many of the steps were updated.
pub record IsCounted (events : List ChildEvent) (run : Run) : Type 0 where
  pub follows : Follows events run.looks
  pub updated : run.updated ≡ count_by is_good_end events

-- between two events
pub record IsInRun (u : Update) (entry here : Moment) (run : Run) (disk : Disk) (events : List ChildEvent) : Type 0 where
  pub stands : StandsInRun u entry here run.sights run.looks disk events
  pub counted : IsCounted events run

-- A step has ended after these events, and what its end calls for was not done yet.
pub record HasHeardInRun (u : Update) (i : ℕ) (well : Bool) (entry here : Moment) (run : Run) (disk : Disk)
    (events : List ChildEvent) : Type 0 where
  pub ran : HasRun u entry here (events ++ Done i well ∷ []) disk.now
  pub gone : LeavesNothing u events disk.now []
  pub first : List LogLine
  pub reads : List Read
  pub reads_are : AddsReads reads entry.host.reads here.host.reads
  pub ended : HasEnded u events i well first reads disk run.sights
  pub true_looks : AreTrueLooks u (events ++ Done i well ∷ []) disk run.sights run.looks
  pub written : Adds (event_lines u.build.steps events) entry.out.written here.out.written
  pub counted : IsCounted events run

-- ---- where an update has stopped

-- what was written before a stop
abbrev pub StopWritten : Update → List ChildEvent → Folder → UpdateStop → List ℕ → Type 0
StopWritten u events now (stops.Files files.Host) part = TellsStarts u.build.steps events part
StopWritten u events now (stops.Files files.OutOfMemory) part =
    TellsStarts u.build.steps events part ⊎ StopsWithLog u events now part
StopWritten u events now (stops.Files (files.TooBig number size)) part = TellsStarts u.build.steps events part
StopWritten u events now stops.Sink part = StopsWithLog u events now part

-- a file that stopped an update is too big
abbrev pub StopTooBig : Update → List ChildEvent → Folder → Knowledge → UpdateStop → Type 0
StopTooBig u events now f (stops.Files files.Host) = ⊤
StopTooBig u events now f (stops.Files files.OutOfMemory) = ⊤
StopTooBig u events now f (stops.Files (files.TooBig number size)) =
    (path : List ℕ) × (path_at f number ≡ Some path) × IsTooBig u events now path size
StopTooBig u events now f stops.Sink = ⊤

-- An update has stopped after these events.
pub record HasHalted (u : Update) (entry here : Moment) (f : Knowledge) (disk : Disk) (stop : UpdateStop) : Type 0 where
  pub events : List ChildEvent
  pub are : here.host.children.events ≡ entry.host.children.events ++ events
  pub given : List Given
  pub given_are : IfSome entry.host.children.given (λ list. here.host.children.given ≡ Some (list ++ given))
  pub reads : List Read
  pub reads_are : AddsReads reads entry.host.reads here.host.reads
  pub stopped : HasStopped u events given reads here.host.children.running disk
  pub part : List ℕ
  pub adds : Adds part entry.out.written here.out.written
  pub written : StopWritten u events disk.now stop part
  pub too_big : StopTooBig u events disk.now f stop

-- ---- what calls tell

-- an update that is between two events is so after a call, by more events perhaps, or has stopped
abbrev pub Tells : {T : Type 0} → Plan → Made → Moment → Run → Moment → Run → Result T UpdateStop → Type 0
Tells plan made before run after later result = BothTold (λ old new. (u : Update) (entry : Moment)
    (events : List ChildEvent) → IsUpdateHere plan made run u → Distinguishes u new.past
    → IsInRun u entry before run old events
    → MatchResult result (λ x. (now : List ChildEvent) × IsInRun u entry after later new now)
    (λ stop. HasHalted u entry after later.sights.facts new stop)) before.host.disk after.host.disk

-- what a wait tells: a child has ended
abbrev pub WaitTells : Plan → Made → Moment → Run → Moment → Run → Result (ℕ × Bool) UpdateStop → Type 0
WaitTells plan made before run after later result = BothTold (λ old new. (u : Update) (entry : Moment)
    (events : List ChildEvent) → IsUpdateHere plan made run u → Distinguishes u new.past
    → IsInRun u entry before run old events
    → MatchResult result (λ ended. HasHeardInRun u ended.0 ended.1 entry after later new events)
    (λ stop. HasHalted u entry after later.sights.facts new stop)) before.host.disk after.host.disk

-- what settling a step tells whose child has ended: it was updated where it ended well
abbrev pub SettleTells : Plan → Made → ℕ → Bool → Moment → Run → Moment → Run → Result Bool UpdateStop → Type 0
SettleTells plan made i well before run after later result = BothTold (λ old new. (u : Update) (entry : Moment)
    (events : List ChildEvent) → IsUpdateHere plan made run u → Distinguishes u new.past
    → HasHeardInRun u i well entry before run old events
    → MatchResult result (λ updated. (updated ≡ well)
    × StandsInRun u entry after later.sights later.looks new (events ++ Done i well ∷ []) × IsCounted events later)
    (λ stop. HasHalted u entry after later.sights.facts new stop)) before.host.disk after.host.disk
