-- How what is known of a step's files belongs to an update.
use Rattle.std.specs.Prelude.{◌≡◌, ℕ, Bool, List, Option, Some, None, map}
use Rattle.std.specs.List.{Contains, AllZip}
use Rattle.b2_host.specs.declared.children.ChildEvent.{ChildEvent}
use Rattle.b2_host.specs.declared.children.ChildEvent.TheVariants.{Done}
use Rattle.b2_plan.specs.declared.step.Step.{Step}
use Rattle.b2_plan.specs.Plans.{Makes}
use Rattle.b2_plan.specs.Closures.{Value}
use Rattle.b2_log.specs.declared.line.Record.{Record}
use Rattle.b2_log.specs.Finding.{path_of, find_record}
use Rattle.b2_runs.specs.Staleness.{Update, NoneDone, IsFresh, StalePoint, paths_with_bytes}
use Rattle.b2_runs.specs.AfterLaws.{seen}
use Rattle.b2_facts.specs.Digests.{digest_of}
use Rattle.b2_facts.specs.Facts.{Knowledge, path_at}
use Rattle.b2_verdicts.specs.declared.point.Point.{Point}
use Rattle.b2_verdicts.specs.declared.step_numbers.StepNumbers.{StepNumbers}

-- The numbers are those of the step's outputs, and of the members of its closure that have bytes.
pub record AreNumbersOf (step : Step) (members : List (List ℕ × Value)) (g : Knowledge)
    (numbers : StepNumbers) : Type 0 where
  pub outs : AllZip (λ n path. path_at g n ≡ Some path) numbers.outs step.outs
  pub ins : AllZip (λ n path. path_at g n ≡ Some path) numbers.ins (paths_with_bytes members)

-- whether a member has no bytes is known, and one that has none
abbrev pub IsNotfileTold : List (List ℕ × Value) → Knowledge → Option ℕ → Type 0
IsNotfileTold members g None = (member : List ℕ) → Contains members (member, None) → ⊥
IsNotfileTold members g (Some n) = (member : List ℕ) × (path_at g n ≡ Some member) × Contains members (member, None)

-- Of the members this one is an output of a step that is done in the update.
pub record IsDoneMember (u : Update) (events : List ChildEvent) (members : List (List ℕ × Value))
    (member : List ℕ) : Type 0 where
  pub value : Value
  pub among : Contains members (member, value)
  pub number : ℕ
  pub maker : Step
  pub makes : Makes u.build.steps number maker member
  pub well : Bool
  pub done : Contains events (Done number well)

-- whether a member is an output of a step that is done is known, and one that is
abbrev pub IsDoneTold : Update → List ChildEvent → List (List ℕ × Value) → Knowledge → Option ℕ → Type 0
IsDoneTold u events members g None = NoneDone u events members
IsDoneTold u events members g (Some n) =
    (member : List ℕ) × (path_at g n ≡ Some member) × IsDoneMember u events members member

-- A step is judged in an update, by the files and the log that it is said of. These are its numbers and its members, each of
-- which is seen with its value, and this is the log's last record for its outputs.
pub record IsCase (u : Update) (events : List ChildEvent) (step : Step) (members : List (List ℕ × Value))
    (numbers : StepNumbers) (last : Option Record) (g : Knowledge) : Type 0 where
  pub digest : u.digest ≡ digest_of
  pub named : AreNumbersOf step members g numbers
  pub seen : (path : List ℕ) (value : Value) → Contains members (path, value) → seen u.build u.build.folder path value
  pub notfile : IsNotfileTold members g numbers.notfile
  pub done : IsDoneTold u events members g numbers.done
  pub found : find_record step.outs u.log ≡ last
  pub outs_named : (found : Record) → last ≡ Some found → map path_of found.outs ≡ step.outs

-- what a verdict tells of the update: that the step is fresh, or that a point of staleness holds
abbrev pub Tells : Update → List ChildEvent → Step → List (List ℕ × Value) → Option Point → Type 0
Tells u events step members None = IsFresh u events step members
Tells u events step members (Some point) = StalePoint u events step members
