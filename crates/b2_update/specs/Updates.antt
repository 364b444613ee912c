-- What an update of a plan does and says.
use Rattle.std.specs.Prelude.{◌≡◌, ℕ, List, [], ◌++◌, Some, IfSome, Result, Ok, Err, if◌then◌else◌}
use Rattle.std.proofs.Common.{ap}
use Rattle.b2_host.specs.declared.children.ChildEvent.{ChildEvent}
use Rattle.b2_host.specs.declared.fault.IoFault.{IoFault}
use Rattle.b2_host.specs.Disks.{Folder, Disk}
use Rattle.b2_host.specs.ChildProcesses.{BothTold}
use Rattle.b2_plan.specs.declared.plan.Plan.{Plan}
use Rattle.b2_plan.specs.Sources.{Build}
use Rattle.b2_log.specs.declared.line.LogLine.{LogLine}
use Rattle.jam_scan.specs.Scans.{is_scanned, scan_of}
use Rattle.jam_scan.specs.IncludeLines.{includes_of}
use Rattle.jam_scan.specs.Places.{places}
use Rattle.b2_runs.specs.LogFiles.{IsLogIn}
use Rattle.b2_runs.specs.Staleness.{Update}
use Rattle.b2_runs.specs.Soundness.{Distinguishes, UsesTrueLines}
use Rattle.b2_runs.specs.Moments.{Moment}
use Rattle.b2_runs.specs.UpdateAnswers.{UpdateAnswer as RunAnswer, HasUpdated, WithLog, WrittenBy}
use Rattle.b2_drain.specs.Drains.{Made}
use Rattle.b2_facts.specs.Digests.{digest_of}
use Rattle.b2_facts.specs.Facts.{no_facts}
use Rattle.b2_update.specs.declared.options.Options.{Options}
use Rattle.b2_update.specs.declared.update_answer.UpdateAnswer.{UpdateAnswer}
use Rattle.b2_update.specs.declared.run.Run.{Run}
use Rattle.b2_update.specs.Answers.{answer_of}
use Rattle.b2_update.specs.Stops.{host_stop_of}
use Rattle.b2_update.specs.InRun.{IsUpdateHere, IsInRun, HasHalted}

-- the build of a plan from these files, in which C and C++ files are scanned
abbrev pub build_of : Plan → Made → Folder → Build
build_of plan made folder = record { steps = plan.steps; wanted = plan.wanted; roots = plan.roots; folder = folder; inc = scan_of; looks = places; made = made }

-- the update of a plan that begins with these files and this log
abbrev pub update_of : Plan → Options → Made → Folder → List LogLine → Update
update_of plan options made folder log = record {
  build = build_of plan made folder;
  log = log;
  scanned = is_scanned;
  unscanned = λ path bytes none. ap (λ scans. if scans then includes_of bytes else []) none;
  digest = digest_of;
  by_digest = options.by_digest;
  all = options.all;
  quit = options.quit;
  jobs = options.jobs;
}

-- the run of an update that was asked for so
pub record IsAskedFor (options : Options) (run : Run) : Type 0 where
  pub all : run.looks.way.all ≡ options.all
  pub by_digest : run.looks.way.by_digest ≡ options.by_digest
  pub quit : run.quit ≡ options.quit

-- the bytes that were written are those that the answer tells, after these events
abbrev pub HasWritten : Update → RunAnswer → Moment → Moment → Folder → Type 0
HasWritten u answer before after now = (events : List ChildEvent)
    → after.host.children.events ≡ before.host.children.events ++ events
    → IfSome before.out.written (λ text. (written : List ℕ) × (after.out.written ≡ Some (text ++ written))
    × WrittenBy u events now answer written)

-- What an update does and writes, where the lines of the log at entry that it uses are true, and digests tell contents apart
-- where they are compared.
pub record IsDone (u : Update) (answer : RunAnswer) (before after : Moment) (disk later : Disk) : Type 0 where
  pub updated : HasUpdated u answer before.host after.host disk later
  pub written : HasWritten u answer before after later.now

-- what running the steps of an update tells, which is between two events
abbrev pub RunTells : Plan → Made → Moment → Run → Moment → UpdateAnswer → Type 0
RunTells plan made before run after answer = BothTold (λ old new. (u : Update) (entry : Moment)
    (events : List ChildEvent) (disk : Disk) → IsUpdateHere plan made run u → Distinguishes u new.past
    → u.build.folder ≡ disk.now → IsLogIn disk.now u.log → IsInRun u entry before run old events
    → IsDone u (answer_of answer) entry after disk new) before.host.disk after.host.disk

-- what opening the log tells: an update is under way of which nothing has happened yet; or it has stopped before
abbrev pub BeginTells : Plan → Options → Made → Moment → Moment → Result Run IoFault → Type 0
BeginTells plan options made before after (Ok run) = BothTold (λ disk later.
    ((log : List LogLine) × IsLogIn disk.now log)
    × ((log : List LogLine) → IsLogIn disk.now log → UsesTrueLines (update_of plan options made disk.now log) disk
    → Distinguishes (update_of plan options made disk.now log) later.past
    → IsInRun (update_of plan options made disk.now log) before after run later [])) before.host.disk after.host.disk
BeginTells plan options made before after (Err fault) = BothTold (λ disk later. (log : List LogLine)
    → IsLogIn disk.now log → UsesTrueLines (update_of plan options made disk.now log) disk
    → Distinguishes (update_of plan options made disk.now log) later.past
    → HasHalted (update_of plan options made disk.now log) before after no_facts later (host_stop_of fault))
    before.host.disk after.host.disk

-- what the update of a plan tells, where the files are visible
abbrev pub UpdateTold : Plan → Options → Made → Moment → Moment → UpdateAnswer → Type 0
UpdateTold plan options made before after answer = BothTold (λ disk later. WithLog disk.now
    (λ log. UsesTrueLines (update_of plan options made disk.now log) disk
    → Distinguishes (update_of plan options made disk.now log) later.past
    → IsDone (update_of plan options made disk.now log) (answer_of answer) before after disk later) (answer_of answer))
    before.host.disk after.host.disk
