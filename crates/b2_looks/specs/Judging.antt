-- What a judgement tells of a step whose closure is settled, over a host whose files are visible.
use Rattle.std.specs.Prelude.{◌≡◌, ◌≢◌, ℕ, Bool, true, false, List, ◌++◌, Some, Result, MatchResult}
use Rattle.std.specs.List.{Contains}
use Rattle.b2_host.specs.declared.children.ChildEvent.{ChildEvent}
use Rattle.b2_host.specs.declared.children.ChildEvent.TheVariants.{Start}
use Rattle.b2_host.specs.Disks.{Folder, Disk}
use Rattle.b2_host.specs.ChildProcesses.{BothTold}
use Rattle.b2_host.specs.ReadsAdded.{AddsReads}
use Rattle.b2_host.specs.Outside.{Outside, Read}
use Rattle.b2_plan.specs.declared.step.Step.{Step}
use Rattle.b2_plan.specs.Plans.{step_at}
use Rattle.b2_plan.specs.Closures.{Value, IsClosure}
use Rattle.b2_log.specs.declared.line.LogLine.{LogLine}
use Rattle.b2_runs.specs.Staleness.{Update, IsFresh, IsStale}
use Rattle.b2_runs.specs.Runs.{Settled, on_settled, Needed}
use Rattle.b2_runs.specs.Soundness.{Distinguishes}
use Rattle.b2_runs.specs.FileReads.{StandsWithLine}
use Rattle.b2_runs.specs.LogCourses.{IsToMigrate}
use Rattle.b2_runs.specs.Afterwards.{IsNotedStep}
use Rattle.b2_facts.specs.declared.stop.FilesStop.{FilesStop}
use Rattle.b2_facts.specs.Facts.{Knowledge}
use Rattle.b2_reach.specs.declared.sights.Sights.{Sights}
use Rattle.b2_verdicts.specs.declared.step_numbers.StepNumbers.{StepNumbers}
use Rattle.b2_verdicts.specs.declared.judging_mode.JudgingMode.{JudgingMode}
use Rattle.b2_verdicts.specs.Cases.{AreNumbersOf, IsNotfileTold, IsDoneTold}
use Rattle.b2_looks.specs.UnderWay.{IsUnderWay, IsHalted}

-- each member that is scanned and has bytes stands with its scan line in the log
abbrev pub HaveScanLines : Update → List ChildEvent → List (List ℕ × Value) → Folder → List LogLine → Type 0
HaveScanLines u events members now log = (path bytes : List ℕ) → Contains members (path, Some bytes)
    → u.scanned path ≡ true → (stamp : ℕ) × StandsWithLine u events now log path stamp

-- A step is to be judged: it is needed, was not started, and its closure is settled; these are the numbers of its
-- files.
pub record IsToJudge (u : Update) (events : List ChildEvent) (step : Step) (numbers : StepNumbers)
    (members : List (List ℕ × Value)) (f : Knowledge) : Type 0 where
  pub number : ℕ
  pub at : step_at u.build.steps number ≡ Some step
  pub needed : Needed u events number
  pub not_started : Contains events (Start number) → ⊥
  pub closure : IsClosure u.build (on_settled u events) step members
  pub named : AreNumbersOf step members f numbers
  pub notfile : IsNotfileTold members f numbers.notfile
  pub done : IsDoneTold u events members f numbers.done

-- The update judges so.
pub record JudgesSo (u : Update) (way : JudgingMode) : Type 0 where
  pub all : u.all ≡ way.all
  pub by_digest : u.by_digest ≡ way.by_digest

-- whether the step is fresh is so in the update; a fresh one has its record where judging is by digests
abbrev pub IsVerdict : Update → List ChildEvent → Folder → List LogLine → Step → List (List ℕ × Value) → Bool → Type 0
IsVerdict u events now log step members true = IsFresh u events step members
    × (u.by_digest ≡ true → IsNotedStep u now log step members)
IsVerdict u events now log step members false = IsStale u events step members

-- The record of each other step stays the last line on it, where it was not started and all of its closure is settled.
abbrev pub OthersStayNoted : Update → List ChildEvent → Step → Folder → List LogLine → Folder → List LogLine → Type 0
OthersStayNoted u events step before log after more =
    (i : ℕ) (other : Step) (members : List (List ℕ × Value)) → step_at u.build.steps i ≡ Some other
    → other.outs ≢ step.outs → (Contains events (Start i) → ⊥)
    → ((member : List ℕ) (value : Value) → Contains members (member, value) → Settled u events member)
    → IsNotedStep u before log other members → IsNotedStep u after more other members

-- an update that is under way is so after a call, with more reads, and P holds of the result; or it has stopped
pub record GoesOnWith {T : Type 0} (u : Update) (events : List ChildEvent) (first : List LogLine) (reads : List Read)
    (P : T → Type 0) (old new : Outside) (disk : Disk) (t : Sights) (result : Result T FilesStop) : Type 0 where
  pub more : List Read
  pub adds : AddsReads more old.reads new.reads
  pub after : MatchResult result (λ x. P x × IsUnderWay u events first (reads ++ more) disk t)
      (λ stop. IsHalted u events (reads ++ more) disk t.facts stop)

-- what a judgement tells
abbrev pub JudgeTold : JudgingMode → Step → StepNumbers → Outside → Sights → Outside → Sights → Result Bool FilesStop → Type 0
JudgeTold way step numbers old s new t result = BothTold
    (λ before after. (u : Update) (events : List ChildEvent) (first : List LogLine) (reads : List Read)
    (members : List (List ℕ × Value)) → JudgesSo u way → Distinguishes u after.past
    → IsToJudge u events step numbers members s.facts → HaveScanLines u events members before.now s.journal
    → IsUnderWay u events first reads before s
    → GoesOnWith u events first reads (λ fresh. IsVerdict u events after.now t.journal step members fresh
    × OthersStayNoted u events step before.now s.journal after.now t.journal) old new after t result) old.disk new.disk

-- what giving a fresh step its record tells
abbrev pub MigrateTold : Step → StepNumbers → Outside → Sights → Outside → Sights → Result (Unit {0}) FilesStop → Type 0
MigrateTold step numbers old s new t result = BothTold (λ before after. (u : Update) (events : List ChildEvent)
    (first : List LogLine) (reads : List Read) (members : List (List ℕ × Value)) → Distinguishes u after.past
    → IsToMigrate u events step members → AreNumbersOf step members s.facts numbers
    → HaveScanLines u events members before.now s.journal → IsUnderWay u events first reads before s
    → GoesOnWith u events first reads (λ (x : Unit {0}). IsNotedStep u after.now t.journal step members
    × OthersStayNoted u events step before.now s.journal after.now t.journal) old new after t result) old.disk new.disk
