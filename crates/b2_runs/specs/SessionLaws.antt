use Rattle.std.specs.Prelude.{◌≡◌, ℕ, ◌<◌, ◌≤◌, List, [], ◌∷◌, ◌++◌, length, Option, ◌⊎◌, IfSome}
use Rattle.std.specs.List.{Contains}
use Rattle.b2_base.specs.Counts.{greatest_count}
use Rattle.b2_host.specs.Disks.{Disk, Past}
use Rattle.b2_host.specs.Outside.{Outside}
use Rattle.b2_plan.specs.Plans.{Apart}
use Rattle.b2_log.specs.declared.line.LogLine.{LogLine}
use Rattle.b2_runs.specs.Logs.{Making}
use Rattle.b2_runs.specs.LogFiles.{log_limit, IsLogIn}
use Rattle.b2_runs.specs.Staleness.{Update, making}
use Rattle.b2_runs.specs.Runs.{IsBegun}
use Rattle.b2_runs.specs.Outcomes.{IsCleanBuild}
use Rattle.b2_runs.specs.Soundness.{Distinguishes}
use Rattle.b2_runs.specs.Afterwards.{IsNoted}
use Rattle.b2_runs.specs.LogCourses.{held_bytes, log_file}
use Rattle.b2_runs.specs.Moments.{Moment, Shows}
use Rattle.b2_runs.specs.UpdateAnswers.{UpdateAnswer, UpdateAnswer.all_went, UpdateAnswer.host_fault, HasUpdated}
use Rattle.b2_runs.specs.Sessions.{Happening, Happening.update, Happening.stop, IsEdit, IsTrueAt, HoldsOfPast, PastGrows, IsUpdate, IsUpdateMaking, IsStop, IsReopened, IsSession, IsAskedFor}

-- an edit leaves a true log true
abbrev pub TrueThroughEdit : Type 0
TrueThroughEdit = (m : Making) (path : List ℕ) (bytes : Option (List ℕ)) (before after : Moment) → IsEdit path bytes before after → IsTrueAt m before → IsTrueAt m after

-- so does an update that is stopped, with the host opened again after it, where digests tell all apart that stood by then
abbrev pub TrueThroughStop : Type 0
TrueThroughStop = (u : Update) (answer : UpdateAnswer) (before after : Moment) → IsStop IsUpdate u answer before after → HoldsOfPast (Distinguishes u) after → IsTrueAt (making u) before → IsTrueAt (making u) after

-- What follows on something that is asked for forgets nothing that stood. It leaves a true log true where what it needs holds of all
-- that stood by then, and so it does where it is stopped. What it needs holds of each part of what it holds of.
pub record LeaveTrue (m : Making) {Asked Answer : Type 0} (Needs : Asked → List Past → Type 0) (Follows : Asked → Answer → Moment → Moment → Type 0) : Type 0 where
  pub grows : (asked : Asked) (answer : Answer) (before after : Moment) → Follows asked answer before after → PastGrows before after
  pub less : (asked : Asked) (past more : List Past) → ((old : Past) → Contains past old → Contains more old) → Needs asked more → Needs asked past
  pub updates : (asked : Asked) (answer : Answer) (before after : Moment) → Follows asked answer before after → HoldsOfPast (Needs asked) after → IsTrueAt m before → IsTrueAt m after
  pub stops : (asked : Asked) (answer : Answer) (before after : Moment) → IsStop Follows asked answer before after → HoldsOfPast (Needs asked) after → IsTrueAt m before → IsTrueAt m after

-- updates of plans do, whose steps make the same of bytes
abbrev pub UpdatesLeaveTrue : Type 0
UpdatesLeaveTrue = (m : Making) → LeaveTrue m Distinguishes (IsUpdateMaking m)

-- through a whole session of what forgets nothing that stood nothing is forgotten
abbrev pub PastGrowsThroughSession : {Asked Answer : Type 0} → (Asked → Answer → Moment → Moment → Type 0) → Type 0
PastGrowsThroughSession {Asked} {Answer} Follows = ((asked : Asked) (answer : Answer) (before after : Moment) → Follows asked answer before after → PastGrows before after)
    → (first last : Moment) (happenings : List (Happening Asked)) (answers : List Answer) → IsSession Follows first happenings answers last → PastGrows first last

-- a whole session of what leaves a true log true does so, where all that is needed holds of what stood by its end
abbrev pub TrueThroughSession : {Asked Answer : Type 0} → (Asked → List Past → Type 0) → (Asked → Answer → Moment → Moment → Type 0) → Type 0
TrueThroughSession {Asked} {Answer} Needs Follows = (m : Making) → LeaveTrue m Needs Follows
    → (first last : Moment) (happenings : List (Happening Asked)) (answers : List Answer) → IsSession Follows first happenings answers last → ((asked : Asked) → IsAskedFor happenings asked → HoldsOfPast (Needs asked) last) → IsTrueAt m first → IsTrueAt m last

-- a session is one of its first events, followed by one of the others
abbrev pub SessionSplits : {Asked Answer : Type 0} → (Asked → Answer → Moment → Moment → Type 0) → Type 0
SessionSplits {Asked} {Answer} Follows = (first last : Moment) (front rest : List (Happening Asked)) (answers : List Answer) → IsSession Follows first (front ++ rest) answers last
    → (middle : Moment) × (here : List Answer) × (later : List Answer) × (answers ≡ here ++ later) × IsSession Follows first front here middle × IsSession Follows middle rest later last

-- at a moment each wanted file is that of the clean build of the sources as they stand then
abbrev pub IsCleanAt : Update → Moment → Type 0
IsCleanAt u moment = IfSome moment.host.disk (λ disk. IsCleanBuild (record u.build { folder = disk.now }) disk.now)

-- so it is where an update answered that all went well whose log was true, where digests tell all apart that stood by then
abbrev pub UpdateLeavesClean : Type 0
UpdateLeavesClean = (u : Update) (before after : Moment) → IsUpdate u all_went before after → HoldsOfPast (Distinguishes u) after → IsTrueAt (making u) before → IsCleanAt u after

-- where a session ends with something that is asked for, it follows between some moment and the last one
abbrev pub SessionEndsWith : {Asked Answer : Type 0} → (Asked → Answer → Moment → Moment → Type 0) → Type 0
SessionEndsWith {Asked} {Answer} Follows = (asked : Asked) (answer : Answer) (first last : Moment) (happenings : List (Happening Asked)) (answers : List Answer)
    → IsSession Follows first (happenings ++ update asked ∷ []) (answers ++ answer ∷ []) last
    → (before : Moment) × Follows asked answer before last

-- so it is at the end of a session whose last event is such an update, where the log was true at its beginning
abbrev pub SessionEndsClean : Type 0
SessionEndsClean = (m : Making) (u : Update) (first last : Moment) (happenings : List (Happening Update)) (answers : List UpdateAnswer) → IsSession (IsUpdateMaking m) first (happenings ++ update u ∷ []) (answers ++ all_went ∷ []) last
    → ((asked : Update) → IsAskedFor (happenings ++ update u ∷ []) asked → HoldsOfPast (Distinguishes asked) last) → IsTrueAt m first → IsCleanAt u last

-- what the log's last lines were on when an update was stopped they still are when the host is opened again
abbrev pub NotedThroughReopen : Type 0
NotedThroughReopen = (u : Update) (answer : UpdateAnswer) (old : Outside) (before now : Disk) (between after : Moment) (log : List LogLine) → Apart u.build.steps u.build.roots → Shows between now → (h : HasUpdated u answer old between.host before now) → (r : IsReopened h.events between after)
    → IsLogIn r.new.now log → length (held_bytes (log_file r.new.now)) ≤ log_limit → (h.events ≡ []) ⊎ ((b : IsBegun u h.events) × IsNoted u b.front r.new.now log)

-- an update of a session that answers a fault of the host has raised the host's count of faults, unless it is at the greatest
abbrev pub UpdateCountsFault : Type 0
UpdateCountsFault = (u : Update) (first last : Moment) → first.host.faults < greatest_count → IsSession IsUpdate first (update u ∷ []) (host_fault ∷ []) last → first.host.faults < last.host.faults

-- and so has one that was stopped
abbrev pub StopCountsFault : Type 0
StopCountsFault = (u : Update) (first last : Moment) → first.host.faults < greatest_count → IsSession IsUpdate first (stop u ∷ []) (host_fault ∷ []) last → first.host.faults < last.host.faults

-- no child runs after an update of a session, nor after one that was stopped and whose host was opened again
abbrev pub UpdateLeavesNone : Type 0
UpdateLeavesNone = (u : Update) (answer : UpdateAnswer) (first last : Moment) → IsSession IsUpdate first (update u ∷ []) (answer ∷ []) last → last.host.children.running ≡ []

abbrev pub StopLeavesNone : Type 0
StopLeavesNone = (u : Update) (answer : UpdateAnswer) (first last : Moment) → IsSession IsUpdate first (stop u ∷ []) (answer ∷ []) last → last.host.children.running ≡ []
