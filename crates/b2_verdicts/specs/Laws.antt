-- Laws of verdicts.
use Rattle.std.specs.Prelude.{◌≡◌, ◌⊎◌, ℕ, List, Option, Some, None}
use Rattle.std.specs.List.{Contains}
use Rattle.b2_host.specs.declared.children.ChildEvent.{ChildEvent}
use Rattle.b2_host.specs.Disks.{Disk}
use Rattle.b2_plan.specs.declared.step.Step.{Step}
use Rattle.b2_plan.specs.Sources.{Build}
use Rattle.b2_plan.specs.Closures.{Value}
use Rattle.b2_log.specs.declared.line.Record.{Record}
use Rattle.b2_runs.specs.Staleness.{Update, paths_with_bytes}
use Rattle.b2_runs.specs.Records.{IsRecordOf}
use Rattle.b2_facts.specs.Digests.{digest_of}
use Rattle.b2_facts.specs.Facts.{Knowledge}
use Rattle.b2_facts.specs.Truth.{AreTrue}
use Rattle.b2_verdicts.specs.declared.point.Point.{Point}
use Rattle.b2_verdicts.specs.declared.step_numbers.StepNumbers.{StepNumbers}
use Rattle.b2_verdicts.specs.Points.{IsPointBy}
use Rattle.b2_verdicts.specs.Made.{IsMadeOf, IsWithoutFile}
use Rattle.b2_verdicts.specs.Cases.{AreNumbersOf, IsCase, Tells}

-- A verdict by true facts is that of the update, by the files and the log that it is said of. Where it names no point the
-- step is fresh, and where it names one a point of staleness holds.
abbrev pub VerdictTells : Type 0
VerdictTells =
    (u : Update) (events : List ChildEvent) (step : Step) (members : List (List ℕ × Value)) (numbers : StepNumbers)
    (last : Option Record) (disk : Disk) (b : Build) (g : Knowledge) (point : Option Point)
    → u.build.folder ≡ disk.now
    → IsCase u events step members numbers last g
    → AreTrue b disk.now g
    → IsPointBy u.by_digest (Some disk) u.all step numbers last g point
    → Tells u events step members point

-- A record that is made by true facts is the one that an update appends.
abbrev pub MadeIsRecord : Type 0
MadeIsRecord =
    (u : Update) (step : Step) (members : List (List ℕ × Value)) (numbers : StepNumbers) (disk : Disk) (b : Build)
    (g : Knowledge) (made : Record)
    → u.digest ≡ digest_of
    → AreNumbersOf step members g numbers
    → AreTrue b disk.now g
    → IsMadeOf u.by_digest step numbers g made
    → IsRecordOf u disk.now step members made

-- Where true facts tell that a file of a step is missing, no file stands at an output, or at a member that has bytes.
abbrev pub MissingIsGone : Type 0
MissingIsGone =
    (step : Step) (members : List (List ℕ × Value)) (numbers : StepNumbers) (disk : Disk) (b : Build) (g : Knowledge)
    → AreNumbersOf step members g numbers
    → AreTrue b disk.now g
    → IsWithoutFile (Some disk) numbers g
    → (path : List ℕ) × (Contains step.outs path ⊎ Contains (paths_with_bytes members) path) × (disk.now path ≡ None)
