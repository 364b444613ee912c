use Rattle.std.specs.Prelude.{◌≡◌, ◌↔◌, ◌⊎◌, ℕ, ◌+◌, ◌≤◌, Bool, true, false, List, [], ◌∷◌, ◌++◌, count_by, Some}
use Rattle.std.specs.List.{Contains}
use Rattle.b2_host.specs.declared.children.ChildEvent.{ChildEvent}
use Rattle.b2_host.specs.declared.children.ChildEvent.TheVariants.{Start, Done}
use Rattle.b2_host.specs.Disks.{File, Disk}
use Rattle.b2_plan.specs.declared.step.Step.{Step}
use Rattle.b2_plan.specs.Plans.{Apart, Makes, step_at}
use Rattle.b2_runs.specs.Staleness.{Update}
use Rattle.b2_runs.specs.Events.{is_start, is_done, AreOnce, MayFollow, AreInOrder, as_counted, AreShort, ShortTold}
use Rattle.b2_runs.specs.Runs.{IsRunSoFar, IsBegun}
use Rattle.b2_runs.specs.Soundness.{IsSound}

-- ---- over every host

-- events in order go on by each event that may follow
abbrev pub OrderGoesOn : Type 0
OrderGoesOn = (steps : List Step) (jobs : ℕ) (events : List ChildEvent) (event : ChildEvent) → AreInOrder steps jobs events → MayFollow steps jobs events event → AreInOrder steps jobs (events ++ event ∷ [])

-- their beginning is in order
abbrev pub OrderHasBegun : Type 0
OrderHasBegun = (steps : List Step) (jobs : ℕ) (front rest : List ChildEvent) → AreInOrder steps jobs (front ++ rest) → AreInOrder steps jobs front

-- at each moment no more steps are open than there are jobs
abbrev pub OpenWithinJobs : Type 0
OpenWithinJobs = (steps : List Step) (jobs : ℕ) (front rest : List ChildEvent) → AreInOrder steps jobs (front ++ rest) → count_by is_start front ≤ count_by is_done front + jobs

-- a step that is done was started
abbrev pub DoneWasStarted : Type 0
DoneWasStarted = (steps : List Step) (jobs : ℕ) (events : List ChildEvent) (i : ℕ) (well : Bool) → AreInOrder steps jobs events → Contains events (Done i well) → Contains events (Start i)

-- a step is done once
abbrev pub DoneOnce : Type 0
DoneOnce = (steps : List Step) (jobs : ℕ) (events : List ChildEvent) (i : ℕ) (well other : Bool) → AreInOrder steps jobs events → Contains events (Done i well) → Contains events (Done i other) → well ≡ other

-- each event is there once: no step starts twice, and none ends twice
abbrev pub EachEventOnce : Type 0
EachEventOnce = (steps : List Step) (jobs : ℕ) (events : List ChildEvent) → AreInOrder steps jobs events → AreOnce events

-- the events of a run so far are in order
abbrev pub RunIsInOrder : Type 0
RunIsInOrder = (u : Update) (events : List ChildEvent) → IsRunSoFar u events → AreInOrder u.build.steps u.jobs events

-- so are those of an update that stopped anywhere
abbrev pub BegunIsInOrder : Type 0
BegunIsInOrder = (u : Update) (events : List ChildEvent) → IsBegun u events → AreInOrder u.build.steps u.jobs events

-- ---- events as they count

-- events in order are so as they count
abbrev pub CountedInOrder : Type 0
CountedInOrder = (steps : List Step) (jobs : ℕ) (short : List ℕ) (events : List ChildEvent) → AreInOrder steps jobs events → AreInOrder steps jobs (as_counted short events)

-- a bad end, as it counts, is one of a step that ended badly, or that ended well and left an output out
abbrev pub BadByCount : Type 0
BadByCount = (short : List ℕ) (events : List ChildEvent) (i : ℕ) → Contains (as_counted short events) (Done i false) ↔ (Contains events (Done i false) ⊎ (Contains events (Done i true) × Contains short i))

-- a good one is of a step that ended well and left every output
abbrev pub GoodByCount : Type 0
GoodByCount = (short : List ℕ) (events : List ChildEvent) (i : ℕ) → Contains (as_counted short events) (Done i true) ↔ (Contains events (Done i true) × (Contains short i → ⊥))

-- where no step left an output out, events count as they are
abbrev pub CountedAsTheyAre : Type 0
CountedAsTheyAre = (events : List ChildEvent) → as_counted [] events ≡ events

-- over a host that tells its files there is no such step: each output stands that a step owes which was done well
abbrev pub NoneIsShort : Type 0
NoneIsShort = (u : Update) (events : List ChildEvent) (disk : Disk) (i : ℕ) (step : Step) (path : List ℕ) → Apart u.build.steps u.build.roots → IsSound u events disk → Makes u.build.steps i step path → step.notfile ≡ false → Contains events (Done i true)
    → (file : File) × (disk.now path ≡ Some file)

-- so there events count as they are
abbrev pub CountedWhereVisible : Type 0
CountedWhereVisible = (disk : Disk) (short : List ℕ) (events : List ChildEvent) → ShortTold (Some disk) short → as_counted short events ≡ events

-- a step that left an output out counts as failed
abbrev pub ShortIsFailed : Type 0
ShortIsFailed = (steps : List Step) (events : List ChildEvent) (short : List ℕ) (i : ℕ) → AreShort steps events short → Contains short i → Contains (as_counted short events) (Done i false)

-- no step did so that makes no file
abbrev pub ShortOwesFiles : Type 0
ShortOwesFiles = (steps : List Step) (events : List ChildEvent) (short : List ℕ) (i : ℕ) (step : Step) → AreShort steps events short → step_at steps i ≡ Some step → step.notfile ≡ true → ¬ Contains short i
