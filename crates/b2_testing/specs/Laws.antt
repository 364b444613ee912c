-- What the definitions say, in other words.
use Rattle.std.specs.Prelude.{◌≡◌, ℕ, ◌<◌, ◌≤◌, false, List, Some, length}
use Rattle.std.specs.List.{Contains}
use Rattle.b2_host.specs.declared.children.ChildEvent.{ChildEvent}
use Rattle.b2_host.specs.Disks.{Folder, bytes_at}
use Rattle.b2_plan.specs.declared.step.Step.{Step}
use Rattle.b2_plan.specs.Plans.{Makes}
use Rattle.b2_plan.specs.Cleans.{Clean}
use Rattle.b2_runs.specs.Staleness.{Update}
use Rattle.b2_runs.specs.Runs.{Needed}
use Rattle.b2_runs.specs.UpdateAnswers.{UpdateAnswer, AnswerTold}
use Rattle.b2_declared.specs.declared.whole.Declared.{Declared}
use Rattle.b2_declared.specs.Laws.{IsSound}
use Rattle.b2_testing.specs.Adding.{with_tests, markers}
use Rattle.b2_generate.specs.Answers.{Row}
use Rattle.b2_testing.specs.Requested.{requested, IsAskedBy}
use Rattle.b2_testing.specs.Verdicts.{HasEnded, IsVerdict}
use Rattle.b2_testing.specs.declared.verdict.Verdict.{Verdict}
use Rattle.b2_testing.specs.declared.verdict.Verdict.TheVariants.{Passed}

-- a test has one verdict at most
abbrev pub OneVerdict : Type 0
OneVerdict = (steps : List Step) (answer : UpdateAnswer) (m : ℕ) (a b : Verdict) → IsVerdict steps answer m a → IsVerdict steps answer m b → a ≡ b

-- and one where the update came to its end
abbrev pub IsJudged : Type 0
IsJudged = (steps : List Step) (answer : UpdateAnswer) (m : ℕ) → HasEnded answer → (verdict : Verdict) × IsVerdict steps answer m verdict

-- the marker of a test that passed stands with the bytes of the clean build, whatever stood there before
abbrev pub PassedStands : Type 0
PassedStands = (u : Update) (events : List ChildEvent) (now : Folder) (answer : UpdateAnswer) (m : ℕ) (step : Step) (path : List ℕ)
    → AnswerTold u events now answer → Needed u events m → Makes u.build.steps m step path → step.notfile ≡ false → IsVerdict u.build.steps answer m Passed
    → (bytes : List ℕ) × Clean u.build path (Some bytes) × (bytes_at now path ≡ Some bytes)

-- the main targets of tests belong to projects, as those of the load do
abbrev pub AddedAreSound : Type 0
AddedAreSound = (files : ℕ) (d : Declared) → IsSound files d.places d.targets d.tests d.indirect → IsSound files d.places (with_tests d).targets d.tests d.indirect

-- each marker has a place among the main targets, behind those of the load
abbrev pub MarkersAreLast : Type 0
MarkersAreLast = (d : Declared) (place : ℕ) → Contains (markers d) place → (length d.targets ≤ place) × (place < length (with_tests d).targets)

-- each test that is asked for is asked for by a row of the table
abbrev pub AskedByRows : Type 0
AskedByRows = (d : Declared) (rows : List Row) (steps : List Step) (wanted : List (List ℕ)) (test : List ℕ × ℕ) → Contains (requested d rows steps wanted) test → (row : Row) × Contains rows row × IsAskedBy d steps wanted test row

-- the step of a test that is asked for is needed, whatever has happened
abbrev pub AskedAreNeeded : Type 0
AskedAreNeeded = (u : Update) (events : List ChildEvent) (d : Declared) (test : List ℕ × ℕ) (row : Row) → IsAskedBy d u.build.steps u.build.wanted test row → Needed u events test.1
