use Rattle.std.specs.Prelude.{◌≡◌, ◌↔◌, ℕ, Bool, true, false, List, [], Some, None}
use Rattle.std.specs.List.{Contains}
use Rattle.b2_host.specs.declared.children.ChildEvent.{ChildEvent}
use Rattle.b2_host.specs.declared.children.ChildEvent.TheVariants.{Start}
use Rattle.b2_host.specs.Disks.{Folder, Disk, bytes_at}
use Rattle.b2_plan.specs.declared.step.Step.{Step}
use Rattle.b2_plan.specs.Plans.{Apart, Makes, step_at}
use Rattle.b2_plan.specs.Sources.{Build, IsInRoots}
use Rattle.b2_plan.specs.Closures.{Value, Values, Known, IsClosure}
use Rattle.b2_plan.specs.Cleans.{Clean}
use Rattle.b2_log.specs.declared.line.LogLine.{LogLine}
use Rattle.b2_log.specs.Finding.{find_record}
use Rattle.b2_runs.specs.Staleness.{Update, IsFresh}
use Rattle.b2_runs.specs.Runs.{Settled, on_settled, IsRunSoFar, CanStart}
use Rattle.b2_runs.specs.Outcomes.{AllWent}
use Rattle.b2_runs.specs.Soundness.{IsSound}
use Rattle.b2_runs.specs.Afterwards.{at_present, next_update, IsMadeEachTime, IsNoted, IsFreshStep}

-- the clean build depends on files outside the roots alone
abbrev pub CleanBySources : Type 0
CleanBySources = (b : Build) (now : Folder) (path : List ℕ) (value : Value) → ((other : List ℕ) → (IsInRoots b.roots other → ⊥) → now other ≡ b.folder other) → Clean b path value ↔ Clean (record b { folder = now }) path value

-- a step that was not started is judged by the present files, and by a log that says of it what it said at entry, as by
-- those at entry
abbrev pub JudgedByPresent : Type 0
JudgedByPresent = (u : Update) (events : List ChildEvent) (disk : Disk) (log : List LogLine) (i : ℕ) (step : Step) (members : List (List ℕ × Value)) → Apart u.build.steps u.build.roots → IsSound u events disk → find_record step.outs log ≡ find_record step.outs u.log
    → step_at u.build.steps i ≡ Some step → (Contains events (Start i) → ⊥) → ((member : List ℕ) (value : Value) → Contains members (member, value) → Settled u events member)
    → IsFresh (at_present u disk.now log) events step members ↔ IsFresh u events step members

-- The value that a path is seen to have on the disk: none where a notfile step makes it, else the bytes that stand there.
abbrev pub seen : Build → Folder → Values
seen b now path None = (i : ℕ) × (step : Step) × Makes b.steps i step path × (step.notfile ≡ true)
seen b now path (Some bytes) = (bytes_at now path ≡ Some bytes) × ((i : ℕ) (step : Step) → Makes b.steps i step path → step.notfile ≡ false)

-- the values that are seen of what is settled
abbrev pub seen_settled : Update → List ChildEvent → Folder → Values
seen_settled u events now path value = Settled u events path × seen u.build now path value

-- of what is settled the disk shows the values of the clean build, and no others
abbrev pub SeenIsClean : Type 0
SeenIsClean = (u : Update) (events : List ChildEvent) (disk : Disk) (path : List ℕ) (value : Value) → Apart u.build.steps u.build.roots → IsRunSoFar u events → IsSound u events disk → on_settled u events path value ↔ seen_settled u events disk.now path value

-- so the closure of a step that the present disk shows on what is settled is its closure by the clean build there
abbrev pub ClosureByPresent : Type 0
ClosureByPresent = (u : Update) (events : List ChildEvent) (disk : Disk) (step : Step) (members : List (List ℕ × Value)) → Apart u.build.steps u.build.roots → IsRunSoFar u events → IsSound u events disk
    → IsClosure (record u.build { folder = disk.now }) (seen_settled u events disk.now) step members ↔ IsClosure u.build (on_settled u events) step members

-- what a step is known to read is the same
abbrev pub KnownByPresent : Type 0
KnownByPresent = (u : Update) (events : List ChildEvent) (disk : Disk) (step : Step) (path : List ℕ) → Apart u.build.steps u.build.roots → IsRunSoFar u events → IsSound u events disk
    → Known (record u.build { folder = disk.now }) (seen_settled u events disk.now) step path ↔ Known u.build (on_settled u events) step path

-- what was settled is settled to the next update before any event, but for what an always-step or a notfile step reaches
abbrev pub SettledAfterwards : Type 0
SettledAfterwards = (u : Update) (events : List ChildEvent) (disk : Disk) (log : List LogLine) (quit : Bool) (jobs : ℕ) (path : List ℕ) → Apart u.build.steps u.build.roots → IsRunSoFar u events → IsSound u events disk → IsNoted u events disk.now log
    → Settled u events path → (IsMadeEachTime u.build path → ⊥) → Settled (next_update u disk.now log quit jobs) [] path

-- a step whose outputs were settled is fresh to the next update before any event, but for those that an always-step or a
-- notfile step reaches
abbrev pub FreshAfterwards : Type 0
FreshAfterwards = (u : Update) (events : List ChildEvent) (disk : Disk) (log : List LogLine) (quit : Bool) (jobs : ℕ) (i : ℕ) (step : Step) (path : List ℕ) → Apart u.build.steps u.build.roots → IsRunSoFar u events → IsSound u events disk → IsNoted u events disk.now log
    → Makes u.build.steps i step path → Settled u events path → (IsMadeEachTime u.build path → ⊥) → IsFreshStep (next_update u disk.now log quit jobs) [] step

-- where all went well, the next update can at no moment of its run start any other step
abbrev pub NoneCanStartAfterwards : Type 0
NoneCanStartAfterwards = (u : Update) (events later : List ChildEvent) (disk : Disk) (log : List LogLine) (quit : Bool) (jobs : ℕ) (i : ℕ) (step : Step) (path : List ℕ) → Apart u.build.steps u.build.roots → IsRunSoFar u events → IsSound u events disk → IsNoted u events disk.now log → AllWent u events
    → IsRunSoFar (next_update u disk.now log quit jobs) later → Makes u.build.steps i step path → (IsMadeEachTime u.build path → ⊥) → CanStart (next_update u disk.now log quit jobs) later i → ⊥

-- so its run, however far it has gone, holds the start of no other step
abbrev pub NothingStartsAfterwards : Type 0
NothingStartsAfterwards = (u : Update) (events later : List ChildEvent) (disk : Disk) (log : List LogLine) (quit : Bool) (jobs : ℕ) (i : ℕ) (step : Step) (path : List ℕ) → Apart u.build.steps u.build.roots → IsRunSoFar u events → IsSound u events disk → IsNoted u events disk.now log → AllWent u events
    → IsRunSoFar (next_update u disk.now log quit jobs) later → Makes u.build.steps i step path → (IsMadeEachTime u.build path → ⊥) → Contains later (Start i) → ⊥
