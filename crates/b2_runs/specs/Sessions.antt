use Rattle.std.specs.Prelude.{◌≡◌, ◌≢◌, ◌⊎◌, ℕ, ◌<◌, ◌≤◌, List, [], ◌∷◌, ◌++◌, Option, Some, None, IfSome}
use Rattle.std.specs.List.{Contains}
use Rattle.b2_host.specs.declared.children.ChildEvent.{ChildEvent}
use Rattle.b2_host.specs.Disks.{File, Disk, Past, IsConsistent}
use Rattle.b2_host.specs.ChildProcesses.{ChangesOnlyOutputs}
use Rattle.b2_host.specs.Outside.{Outside}
use Rattle.b2_plan.specs.Plans.{Apart}
use Rattle.b2_host.specs.FileCalls.{log_path}
use Rattle.b2_runs.specs.Logs.{Making}
use Rattle.b2_runs.specs.LogFiles.{IsTrueOn}
use Rattle.b2_runs.specs.Staleness.{Update, making}
use Rattle.b2_runs.specs.Events.{IsOpen}
use Rattle.b2_runs.specs.Runs.{OpenEnds}
use Rattle.b2_runs.specs.Soundness.{Distinguishes, UsesTrueLines}
use Rattle.b2_runs.specs.Afterwards.{at_present}
use Rattle.b2_runs.specs.Moments.{Moment, Shows, with_disk, IsSameButRisks}
use Rattle.b2_runs.specs.UpdateAnswers.{UpdateAnswer, CausedBy, LeavesNone, LeavesOpen, WithLog, HasUpdated}

-- Sessions: edits, updates, and updates that are stopped.

-- What happens in a session: a file is written or deleted; something is asked for, and an update follows; and such an update that
-- is stopped, wherever that may be, after which the host is opened again.
pub data Happening (Asked : Type 0) : Type 0 where
  edit : List ℕ → Option (List ℕ) → Happening Asked
  update : Asked → Happening Asked
  stop : Asked → Happening Asked

-- what is to stand at a path after an edit: nothing, or a file with these bytes and a stamp above all that stood
abbrev pub IsEdited : Disk → Option (List ℕ) → Option File → Type 0
IsEdited before None now = now ≡ None
IsEdited before (Some bytes) now = (file : File) × (now ≡ Some file) × (file.bytes ≡ bytes) × ((old : Past) → Contains before.past old → old.file.stamp < file.stamp)

-- An edit changes nothing but a file, and does not write the log, though it may delete it.
pub record IsEdit (path : List ℕ) (bytes : Option (List ℕ)) (before after : Moment) : Type 0 where
  pub old : Disk
  pub shows : Shows before old
  pub new : Disk
  pub same : after ≡ with_disk new before
  pub not_log : path ≡ log_path → bytes ≡ None
  pub edited : IsEdited old bytes (new.now path)
  pub others : (other : List ℕ) → other ≢ path → new.now other ≡ old.now other
  pub keeps : IsConsistent new
  pub grows : (past : Past) → Contains old.past past → Contains new.past past

-- the log at a moment is true, where the files are visible
abbrev pub IsTrueAt : Making → Moment → Type 0
IsTrueAt m moment = IfSome moment.host.disk (IsTrueOn m)

-- this holds of all that stood by a moment, where the files are visible
abbrev pub HoldsOfPast : (List Past → Type 0) → Moment → Type 0
HoldsOfPast P moment = IfSome moment.host.disk (λ disk. P disk.past)

-- files that are visible are so later too, and nothing that stood is forgotten
abbrev pub PastGrows : Moment → Moment → Type 0
PastGrows before after = IfSome before.host.disk (λ old. (new : Disk) × Shows after new × ((past : Past) → Contains old.past past → Contains new.past past))

-- What an update of a plan with 1 to 64 jobs has done to a host between two moments, with this answer. No child ran before it. Those
-- that run after it are of steps that it left open, one at most for each wait that failed. Nothing that stood is forgotten, and
-- what may go wrong stays. Where digests tell all apart that stood by then, a true log stays true, and an update that uses true lines has done what it is to.
pub record HostUpdated (u : Update) (answer : UpdateAnswer) (before after : Outside) : Type 0 where
  pub old : Disk
  pub shows : before.disk ≡ Some old
  pub new : Disk
  pub shows_then : after.disk ≡ Some new
  pub apart : Apart u.build.steps u.build.roots
  pub jobs : (1 ≤ u.jobs) × (u.jobs ≤ 64)
  pub idle : before.children.running ≡ []
  pub risks : after.risks ≡ before.risks
  pub none_left : LeavesNone before after
  pub left_open : LeavesOpen u.build.steps before.children after.children
  pub consistent : IsConsistent old
  pub keeps : IsConsistent new
  pub grows : (past : Past) → Contains old.past past → Contains new.past past
  pub stays_true : Distinguishes u new.past → IsTrueOn (making u) old → IsTrueOn (making u) new
  pub has : Distinguishes u new.past → UsesTrueLines u old → WithLog old.now (λ log. HasUpdated (at_present u old.now log) answer before after old new) answer

-- An update has come between two moments, with an answer that the counts of faults allow.
pub record IsUpdate (u : Update) (answer : UpdateAnswer) (before after : Moment) : Type 0 where
  pub did : HostUpdated u answer before.host after.host
  pub caused : CausedBy before after answer

-- The host is opened again after an update with these events: no child runs, and each that ran has ended, and worked until then.
-- What each start gave, the reads and the counts of faults are as they were, and so is the sink. Nothing is said of what may go
-- wrong from then on.
pub record IsReopened (events : List ChildEvent) (before after : Moment) : Type 0 where
  pub old : Disk
  pub shows : Shows before old
  pub new : Disk
  pub ends : List ChildEvent
  pub same : after ≡ record before { host = record before.host { disk = Some new; children = record before.host.children { running = []; events = before.host.children.events ++ ends }; risks = after.host.risks } }
  pub open_ends : OpenEnds events ends
  pub all_end : (i : ℕ) → IsOpen (events ++ ends) i → ⊥
  pub worked : ChangesOnlyOutputs before.host.children.running old new
  pub keeps : IsConsistent new

-- the same, of an update whose steps make bytes as is said here
abbrev pub IsUpdateMaking : Making → Update → UpdateAnswer → Moment → Moment → Type 0
IsUpdateMaking m u answer before after = (making u ≡ m) × IsUpdate u answer before after

-- An update was stopped, and the host was opened again. First the host was told that it would be stopped. That changes nothing but
-- its risks. What follows on something that is asked for is a relation of the answer and of the moments before and after: who
-- says that something is a session says what it is, as `IsUpdate` for given plans.
pub record IsStop {Asked Answer : Type 0} (Follows : Asked → Answer → Moment → Moment → Type 0) (asked : Asked) (answer : Answer) (before after : Moment) : Type 0 where
  pub fused : Moment
  pub fuse : IsSameButRisks before fused
  pub between : Moment
  pub updated : Follows asked answer fused between
  pub events : List ChildEvent
  pub events_are : between.host.children.events ≡ before.host.children.events ++ events
  pub reopened : IsReopened events between after

module _ {Asked Answer : Type 0} (Follows : Asked → Answer → Moment → Moment → Type 0) where
  -- what comes between two neighbouring moments, and the answers that it gives
  abbrev pub Comes : Happening Asked → Moment → List Answer → Moment → Type 0
  Comes (edit path bytes) before answers after = (answers ≡ []) × IsEdit path bytes before after
  Comes (update asked) before answers after = (answer : Answer) × (answers ≡ answer ∷ []) × Follows asked answer before after × (after.host.children.running ≡ [])
  Comes (stop asked) before answers after = (answer : Answer) × (answers ≡ answer ∷ []) × IsStop Follows asked answer before after

  -- this happens from moment to moment, with the answers of updates and stops in order
  abbrev pub Happens : Moment → List (Happening Asked) → List Answer → Moment → Type 0
  Happens first [] answers last = (answers ≡ []) × (last ≡ first)
  Happens first (happening ∷ more) answers last = (next : Moment) × (here : List Answer) × (later : List Answer) × (answers ≡ here ++ later) × Comes happening first here next × Happens next more later last

  -- A session. Before anything happens, what may go wrong with the host is worked out anew, and nothing else changes.
  abbrev pub IsSession : Moment → List (Happening Asked) → List Answer → Moment → Type 0
  IsSession first happenings answers last = (renewed : Moment) × IsSameButRisks first renewed × Happens renewed happenings answers last

-- this is asked for in a session, whether or not it is stopped
abbrev pub IsAskedFor : {Asked : Type 0} → List (Happening Asked) → Asked → Type 0
IsAskedFor happenings asked = Contains happenings (update asked) ⊎ Contains happenings (stop asked)
