-- The plan of a call that comes after an update, with no edit between them.
use Rattle.std.specs.Prelude.{◌≡◌, ℕ, false, List, Some}
use Rattle.b2_host.specs.declared.children.ChildEvent.{ChildEvent}
use Rattle.b2_host.specs.Disks.{Folder, Disk, IsConsistent, bytes_at}
use Rattle.b2_host.specs.Outside.{Outside}
use Rattle.b2_plan.specs.Plans.{Apart}
use Rattle.b2_plan.specs.Sources.{IsInRoots}
use Rattle.b2_log.specs.declared.line.LogLine.{LogLine}
use Rattle.b2_runs.specs.Moments.{Moment}
use Rattle.b2_runs.specs.NextLaws.{IsOfSamePlan}
use Rattle.b2_runs.specs.Outcomes.{OnlyOutputsChange}
use Rattle.b2_runs.specs.Sessions.{HostUpdated, IsReopened}
use Rattle.b2_runs.specs.Soundness.{Distinguishes, UsesTrueLines}
use Rattle.b2_runs.specs.Staleness.{Update}
use Rattle.b2_runs.specs.UpdateAnswers.{UpdateAnswer}
use Rattle.b2_drain.specs.Drains.{Made}
use Rattle.b2_command_line.specs.Words.{Word}
use Rattle.b2_top.specs.declared.build_command.BuildCommand.{BuildCommand}
use Rattle.b2_top.specs.Commands.{build_command}
use Rattle.b2_top.specs.Plans.{HasPlan, update_for}

-- the files have the same bytes outside the output roots
abbrev pub SourcesStay : List (List ℕ) → Folder → Folder → Type 0
SourcesStay roots before now = (path : List ℕ) → (IsInRoots roots path → ⊥) → bytes_at now path ≡ bytes_at before path

-- The one call asks for what the other one asked for: by the same free words, and by the same way of judging. It does not ask to build
-- all anew.
pub record AsksAgain (first again : BuildCommand) : Type 0 where
  pub words : again.words ≡ first.words
  pub judged : again.options.digest ≡ first.options.digest
  pub not_all : again.options.all ≡ false

-- an update changes no source
abbrev pub UpdatesLeaveSources : Type 0
UpdatesLeaveSources =
    (u : Update) (events : List ChildEvent) (before now : Folder) → Apart u.build.steps u.build.roots → OnlyOutputsChange u events before now
    → SourcesStay u.build.roots before now

-- so it is with what an update has done to a host, however it ended
abbrev pub HostUpdatesLeaveSources : Type 0
HostUpdatesLeaveSources =
    (u : Update) (answer : UpdateAnswer) (first between : Outside) (x : HostUpdated u answer first between)
    → UsesTrueLines u x.old → Distinguishes u x.new.past → SourcesStay u.build.roots x.old.now x.new.now

-- and where it was stopped, and the host was opened again after it
abbrev pub StopsLeaveSources : Type 0
StopsLeaveSources =
    (u : Update) (answer : UpdateAnswer) (first : Outside) (between reopened : Moment) (events : List ChildEvent) (x : HostUpdated u answer first between.host)
    → UsesTrueLines u x.old → Distinguishes u x.new.past → (r : IsReopened events between reopened) → SourcesStay u.build.roots x.old.now r.new.now

-- where the sources stay, the same free words come to the same plan
abbrev pub PlanComesAgain : Type 0
PlanComesAgain =
    (words again : List Word) (disk later : Disk) (plan : HasPlan words disk) (command : BuildCommand) → IsConsistent disk → IsConsistent later
    → SourcesStay plan.planned.roots disk.now later.now → build_command again ≡ Some command → command.words ≡ plan.command.words
    → (next : HasPlan again later) × (next.planned ≡ plan.planned) × (next.echoes ≡ plan.echoes)

-- and whatever plan they come to, its update is of the same plan
abbrev pub NextIsOfSamePlan : Type 0
NextIsOfSamePlan =
    (made : Made) (words again : List Word) (disk later : Disk) (plan : HasPlan words disk) (next : HasPlan again later) (first log : List LogLine)
    → IsConsistent disk → IsConsistent later → SourcesStay plan.planned.roots disk.now later.now → AsksAgain plan.command next.command
    → IsOfSamePlan (update_for made plan first) (update_for made next log)
