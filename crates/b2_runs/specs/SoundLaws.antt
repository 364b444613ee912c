use Rattle.std.specs.Prelude.{◌≡◌, ℕ, Bool, false, List, [], ◌∷◌, ◌++◌, Some}
use Rattle.std.specs.List.{Contains}
use Rattle.b2_host.specs.declared.children.ChildEvent.{ChildEvent}
use Rattle.b2_host.specs.declared.children.ChildEvent.TheVariants.{Start, Done}
use Rattle.b2_host.specs.Disks.{Disk, Past, IsConsistent, without}
use Rattle.b2_host.specs.ChildProcesses.{Family, Child, ChangesOnlyOutputs, Ends}
use Rattle.b2_plan.specs.declared.step.Step.{Step}
use Rattle.b2_plan.specs.Plans.{Apart, Makes, step_at}
use Rattle.b2_host.specs.FileCalls.{log_path}
use Rattle.b2_plan.specs.Closures.{Value, IsClosure}
use Rattle.b2_plan.specs.Cleans.{Clean}
use Rattle.b2_log.specs.declared.line.Record.{Record}
use Rattle.b2_runs.specs.Logs.{RecordsTrue, IsTrueRecord}
use Rattle.b2_runs.specs.LogFiles.{IsTrueOn}
use Rattle.b2_runs.specs.Staleness.{Update, making}
use Rattle.b2_runs.specs.Records.{IsRecordOf}
use Rattle.b2_runs.specs.Runs.{Settled}
use Rattle.b2_runs.specs.Soundness.{Distinguishes, UsesTrueLines, IsSound, IsLoose, IsAllowedChange, AreAtWork}

-- of a true log all that an update uses is true
abbrev pub TrueLogServes : Type 0
TrueLogServes = (u : Update) (disk : Disk) → IsTrueOn (making u) disk → UsesTrueLines u disk

-- where an update begins, the disk is sound to it
abbrev pub SoundAtEntry : Type 0
SoundAtEntry = (u : Update) (disk : Disk) → IsConsistent disk → (u.all ≡ false → RecordsTrue (making u) disk.past u.log) → ((path : List ℕ) → u.build.folder path ≡ disk.now path) → Distinguishes u disk.past → IsSound u [] disk

-- it stays sound as a step starts
abbrev pub SoundAfterStart : Type 0
SoundAfterStart = (u : Update) (events : List ChildEvent) (disk : Disk) (i : ℕ) → IsSound u events disk → IsSound u (events ++ Start i ∷ []) disk

-- it stays sound as steps that run or failed change their outputs, and the log changes
abbrev pub SoundAfterChange : Type 0
SoundAfterChange = (u : Update) (events : List ChildEvent) (before after : Disk) → Apart u.build.steps u.build.roots → IsSound u events before → IsAllowedChange u events before after → Distinguishes u after.past → IsSound u events after

-- it stays sound as a child ends: where it ended well, its outputs have the clean build's bytes
abbrev pub SoundAfterEnd : Type 0
SoundAfterEnd = (u : Update) (events : List ChildEvent) (old new : Family) (before after : Disk) (i : ℕ) (well : Bool) → Apart u.build.steps u.build.roots → AreAtWork u events old.running → IsSound u events before → IsConsistent after
    → Ends u.build.made old (Some before) i well new (Some after) → Distinguishes u after.past → IsSound u (events ++ Done i well ∷ []) after

-- children at work change nothing but outputs of steps that run
abbrev pub WorkIsAllowed : Type 0
WorkIsAllowed = (u : Update) (events : List ChildEvent) (running : List Child) (before after : Disk) → AreAtWork u events running → IsConsistent after → ChangesOnlyOutputs running before after → IsAllowedChange u events before after

-- removing an output of a step that runs or failed is an allowed change
abbrev pub RemovalIsAllowed : Type 0
RemovalIsAllowed = (u : Update) (events : List ChildEvent) (disk : Disk) (i : ℕ) (step : Step) (path : List ℕ) → Makes u.build.steps i step path → IsLoose events i → IsConsistent (without path disk) → IsAllowedChange u events disk (without path disk)

-- a change of the log alone is an allowed change
abbrev pub LogIsAllowed : Type 0
LogIsAllowed = (u : Update) (events : List ChildEvent) (before after : Disk) → IsConsistent after → ((path : List ℕ) → (path ≡ log_path → ⊥) → after.now path ≡ before.now path) → ((old : Past) → Contains before.past old → Contains after.past old) → IsAllowedChange u events before after

-- digests that tell apart what stood by now told apart what stood before
abbrev pub DistinguishesLess : Type 0
DistinguishesLess = (u : Update) (past more : List Past) → ((old : Past) → Contains past old → Contains more old) → Distinguishes u more → Distinguishes u past

-- the record of a step whose closure and outputs are settled is true, before it is appended: of one that was done well as
-- soon as it is done, and of one that is fresh
abbrev pub RecordIsTrue : Type 0
RecordIsTrue = (u : Update) (events : List ChildEvent) (disk : Disk) (i : ℕ) (step : Step) (members : List (List ℕ × Value)) (r : Record) → Apart u.build.steps u.build.roots → IsSound u events disk
    → step_at u.build.steps i ≡ Some step → step.notfile ≡ false → ((path : List ℕ) → Contains step.outs path → Settled u events path)
    → IsClosure u.build (Clean u.build) step members → ((member : List ℕ) (value : Value) → Contains members (member, value) → Settled u events member)
    → IsRecordOf u disk.now step members r → IsTrueRecord (making u) disk.past r
