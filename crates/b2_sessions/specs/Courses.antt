-- How far a session has come.
use Rattle.std.specs.Prelude.{◌≡◌, ℕ, ◌≤◌, false, List, [], ◌∷◌, ◌++◌, take, length, Result, Ok, Err}
use Rattle.std.specs.List.{list_any}
use Rattle.b2_base.specs.declared.fault.OutOfMemory.{OutOfMemory}
use Rattle.b2_drill.specs.declared.event.Event.{Event}
use Rattle.b2_drill.specs.declared.event.Event.TheVariants as kinds
use Rattle.b2_host.specs.Disks.{Disk}
use Rattle.b2_host.specs.Outside.{Outside}
use Rattle.b2_host.specs.Output.{Output}
use Rattle.b2_memory.specs.Hosts.{told_outside, memory_of}
use Rattle.b2_memory.specs.Results.{made_of}
use Rattle.b2_memory.specs.Scripts.{risks_of}
use Rattle.b2_memory.specs.declared.memory.MemoryHost.{MemoryHost}
use Rattle.b2_runs.specs.Moments.{Moment, Shows}
use Rattle.b2_runs.specs.SessionLaws.{IsCleanAt}
use Rattle.b2_runs.specs.Sessions.{IsTrueAt, HoldsOfPast, PastGrows, IsSession, IsAskedFor}
use Rattle.b2_command_line.specs.Words.{Word}
use Rattle.b2_top.specs.declared.answer.Answer.{Answer}
use Rattle.b2_top.specs.declared.answer.Answer.TheVariants as answers
use Rattle.b2_top.specs.Askings.{Asking, build_of}
use Rattle.b2_top.specs.Plans.{HasPlan, making_by}
use Rattle.b2_sessions.specs.BuildCalls.{IsCall, TellsFor, update_of}
use Rattle.b2_sessions.specs.Events.{happenings, writes_log}
use Rattle.b2_sessions.specs.Scenes.{Scene, Did, WereRun}

-- the moment of a host in memory and a sink
abbrev pub moment_of : MemoryHost → Output → Moment
moment_of host out = record { host = told_outside host; out = out }

-- no wait is listed that is still to fail, and no fuse is set
abbrev pub NoWaitIsToFail : MemoryHost → Type 0
NoWaitIsToFail host = (risks_of (memory_of host).listed).wait_may_fail ≡ false

-- no wait may fail
abbrev pub NoWaitMayFail : Outside → Type 0
NoWaitMayFail host = host.risks.wait_may_fail ≡ false

-- the session of these events between two moments, with these answers
abbrev pub IsSessionOf : List Event → Moment → List Answer → Moment → Type 0
IsSessionOf events first answers last = IsSession (IsCall made_of) first (happenings events) answers last

-- The first so many events were run, with these answers, and none of them writes the log.
pub record HasRun (events : List Event) (count : ℕ) (first : Scene) (answers : List Answer) (last : Scene) : Type 0 where
  pub within : count ≤ length events
  pub ran : WereRun (take count events) first answers last
  pub no_log_edit : list_any writes_log (take count events) ≡ false

-- no child runs, and no wait may fail
pub record IsReady (host : Outside) : Type 0 where
  pub idle : host.children.running ≡ []
  pub calm : NoWaitMayFail host

-- the event was run, and its answers were added
abbrev pub OneMore : Event → Scene → Scene → List Answer → List Answer → Type 0
OneMore event before after old new = (here : List Answer) × (new ≡ old ++ here) × Did event before here after

-- so it was, or nothing was done, since no memory was left
abbrev pub HasHappenedOrNot : {T : Type 0} → Event → Scene → Scene → List Answer → List Answer → Result T OutOfMemory → Type 0
HasHappenedOrNot event before after old new (Ok x) = OneMore event before after old new
HasHappenedOrNot event before after old new (Err e) = (after ≡ before) × (new ≡ old)

-- ---- what follows of a session

-- Nothing that stood is forgotten, and no count of faults falls.
pub record HasPassed (first last : Moment) : Type 0 where
  pub grows : PastGrows first last
  pub faults : first.host.faults ≤ last.host.faults
  pub failed_waits : first.host.failed_waits ≤ last.host.failed_waits
  pub sink_faults : first.out.faults ≤ last.out.faults

-- where an event judges by digests, they tell apart what stood by then
abbrev pub DigestsTell : List Event → Moment → Type 0
DigestsTell events last = (asking : Asking) → IsAskedFor (happenings events) asking → HoldsOfPast (TellsFor asking) last

-- a true log stays true, where digests tell contents apart that events judge by
abbrev pub TrueLogStays : List Event → Moment → Moment → Type 0
TrueLogStays events first last = DigestsTell events last → IsTrueAt (making_by made_of) first → IsTrueAt (making_by made_of) last

-- The last call of a session answered Ok: each requested file of the plan that its words and the files before it came to
-- has the bytes of the clean build of the sources as they stand now.
pub record LastIsClean (words : List Word) (last : Moment) : Type 0 where
  pub before : Moment
  pub came : IsCall made_of (build_of words) answers.Ok before last
  pub disk : Disk
  pub shows : Shows before disk
  pub plan : HasPlan words disk
  pub clean : IsCleanAt (update_of made_of plan) last

-- so it is where the last event is an update that answered Ok, and the log was true at the beginning
abbrev pub EndsClean : List Event → List Answer → Moment → Moment → Type 0
EndsClean events given first last = (front : List Event) (words : List Word) (earlier : List Answer)
    → events ≡ front ++ kinds.Update words ∷ [] → given ≡ earlier ++ answers.Ok ∷ []
    → DigestsTell events last → IsTrueAt (making_by made_of) first → LastIsClean words last
