use Rattle.std.specs.Prelude.{◌≡◌, ◌≢◌, ℕ, Bool, true, false, List, [], ◌∷◌, ◌++◌, Some}
use Rattle.std.specs.List.{Contains}
use Rattle.b2_host.specs.declared.children.ChildEvent.{ChildEvent}
use Rattle.b2_host.specs.declared.children.ChildEvent.TheVariants.{Start, Done}
use Rattle.b2_host.specs.Disks.{Folder, Disk, IsConsistent}
use Rattle.b2_host.specs.ChildProcesses.{Family, Ends}
use Rattle.b2_plan.specs.declared.step.Step.{Step}
use Rattle.b2_plan.specs.Plans.{Apart, step_at}
use Rattle.b2_plan.specs.Closures.{Value, IsClosure}
use Rattle.b2_plan.specs.Cleans.{Clean}
use Rattle.b2_log.specs.declared.line.Record.{Record}
use Rattle.b2_log.specs.declared.line.LogLine.{LogLine}
use Rattle.b2_log.specs.declared.line.LogLine.TheVariants as lines
use Rattle.b2_log.specs.declared.subject.Subject.TheVariants as subjects
use Rattle.b2_log.specs.Finding.{subject_of}
use Rattle.b2_runs.specs.Staleness.{Update, NoneOlder, IsFresh}
use Rattle.b2_runs.specs.Records.{IsRecordOf}
use Rattle.b2_runs.specs.Runs.{Settled, IsBegun}
use Rattle.b2_runs.specs.Outcomes.{IsFailed, LeavesNothing}
use Rattle.b2_runs.specs.Soundness.{IsAllowedChange, AreAtWork}
use Rattle.b2_runs.specs.Afterwards.{next_update, NoneDoneOlder, IsNotedStep}

-- ---- the last line on one step

-- no two steps have the same outputs, so a line about the one says nothing of the other
abbrev pub OutsDiffer : Type 0
OutsDiffer = (u : Update) (i k : ℕ) (step other : Step) → Apart u.build.steps u.build.roots → step_at u.build.steps i ≡ Some step → step_at u.build.steps k ≡ Some other → (i ≡ k → ⊥) → step.outs ≢ other.outs

-- once the record of a step is appended it is the last line on it
abbrev pub NotedByRecord : Type 0
NotedByRecord = (u : Update) (now : Folder) (log : List LogLine) (step : Step) (members : List (List ℕ × Value)) (r : Record) → IsRecordOf u now step members r → IsNotedStep u now (log ++ lines.Record r ∷ []) step members

-- the last line on a step stays so as a line about other outputs is appended
abbrev pub NotedBesideLine : Type 0
NotedBesideLine = (u : Update) (now : Folder) (log : List LogLine) (step : Step) (members : List (List ℕ × Value)) (line : LogLine) → subject_of line ≢ subjects.Outputs step.outs → IsNotedStep u now log step members → IsNotedStep u now (log ++ line ∷ []) step members

-- The last line on a step stays so as steps that run or failed change their outputs, where it was not started and all of its
-- closure is settled.
abbrev pub NotedBesideChange : Type 0
NotedBesideChange = (u : Update) (events : List ChildEvent) (before after : Disk) (log : List LogLine) (i : ℕ) (step : Step) (members : List (List ℕ × Value)) → Apart u.build.steps u.build.roots → IsAllowedChange u events before after → step_at u.build.steps i ≡ Some step → (Contains events (Start i) → ⊥)
    → ((member : List ℕ) (value : Value) → Contains members (member, value) → Settled u events member) → IsNotedStep u before.now log step members → IsNotedStep u after.now log step members

-- ---- steps that are done

-- a child that ends well leaves no output older than a member of its step's closure
abbrev pub OutputsAreNewer : Type 0
OutputsAreNewer = (u : Update) (events : List ChildEvent) (old new : Family) (before after : Disk) (i : ℕ) (step : Step) (members : List (List ℕ × Value)) → Apart u.build.steps u.build.roots → IsBegun u events → AreAtWork u events old.running → IsConsistent before
    → Ends u.build.made old (Some before) i true new (Some after) → step_at u.build.steps i ≡ Some step → IsClosure u.build (Clean u.build) step members → NoneOlder after.now step members

-- a failed step is stale to the next update, since its outputs do not stand
abbrev pub FailedIsStale : Type 0
FailedIsStale = (u : Update) (events : List ChildEvent) (now : Folder) (log : List LogLine) (quit : Bool) (jobs : ℕ) (i : ℕ) (step : Step) (members : List (List ℕ × Value)) → Apart u.build.steps u.build.roots → LeavesNothing u events now log → IsFailed events i
    → step_at u.build.steps i ≡ Some step → IsFresh (next_update u now log quit jobs) [] step members → ⊥

-- ---- no output that was made is older than what it was made of, also of those that end after an update stopped

-- before any event no output that was made is older than what it was made of
abbrev pub NoneOlderAtEntry : Type 0
NoneOlderAtEntry = (u : Update) (now : Folder) → NoneDoneOlder u [] now

-- none is older as a step starts
abbrev pub NoneOlderAfterStart : Type 0
NoneOlderAfterStart = (u : Update) (events : List ChildEvent) (now : Folder) (i : ℕ) → NoneDoneOlder u events now → NoneDoneOlder u (events ++ Start i ∷ []) now

-- none is older as a step ends, where its own outputs are not older, if it ended well and owes files
abbrev pub NoneOlderAfterEnd : Type 0
NoneOlderAfterEnd = (u : Update) (events : List ChildEvent) (now : Folder) (i : ℕ) (well : Bool) → NoneDoneOlder u events now
    → (well ≡ true → (step : Step) (members : List (List ℕ × Value)) → step_at u.build.steps i ≡ Some step → step.notfile ≡ false → IsClosure u.build (Clean u.build) step members → NoneOlder now step members)
    → NoneDoneOlder u (events ++ Done i well ∷ []) now

-- none is older as steps that run or failed change their outputs
abbrev pub NoneOlderAfterChange : Type 0
NoneOlderAfterChange = (u : Update) (events : List ChildEvent) (before after : Disk) → Apart u.build.steps u.build.roots → IsBegun u events → IsAllowedChange u events before after → NoneDoneOlder u events before.now → NoneDoneOlder u events after.now
