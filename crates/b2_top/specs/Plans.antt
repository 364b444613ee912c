-- Plans, and the updates of them that are asked for.
use Rattle.std.specs.Prelude.{◌≡◌, true, List, [], Option, Some, if◌then◌else◌}
use Rattle.std.proofs.Common.{ap}
use Rattle.b2_generate.specs.Planning.{Planned}
use Rattle.b2_host.specs.Disks.{Folder, Disk, Past}
use Rattle.b2_plan.specs.Sources.{Build}
use Rattle.b2_log.specs.declared.line.LogLine.{LogLine}
use Rattle.jam_scan.specs.Scans.{is_scanned, scan_of}
use Rattle.jam_scan.specs.IncludeLines.{includes_of}
use Rattle.jam_scan.specs.Places.{places}
use Rattle.b2_runs.specs.Logs.{Making, NoCollision}
use Rattle.b2_runs.specs.Soundness.{Distinguishes, UsesTrueLines}
use Rattle.b2_runs.specs.Staleness.{Update}
use Rattle.b2_drain.specs.Drains.{Made}
use Rattle.b2_facts.specs.Digests.{digest_of}
use Rattle.b2_update.specs.declared.options.Options.{Options}
use Rattle.b2_command_line.specs.Words.{Word}
use Rattle.b2_command_line.specs.declared.words.BuildOptions.{BuildOptions}
use Rattle.b2_top.specs.declared.build_command.BuildCommand.{BuildCommand}
use Rattle.b2_top.specs.Askings.{Asking, build_of, ComesTo}
use Rattle.b2_top.specs.Commands.{build_command}

-- A command is asked for, and the files and its free words come to this plan.
pub record HasPlanFor (asking : Asking) (disk : Disk) : Type 0 where
  pub command : BuildCommand
  pub echoes : List Word
  pub planned : Planned
  pub asked : asking.command ≡ Some command
  pub means : ComesTo asking.source disk command.words echoes planned

-- The words ask for a build, and the files and the free words come to this plan.
abbrev pub HasPlan : List Word → Disk → Type 0
HasPlan words disk = HasPlanFor (build_of words) disk

-- how an update is asked for by the options of a build
abbrev pub options_of : BuildOptions → Options
options_of options = record { jobs = options.jobs; all = options.all; quit = options.quit; by_digest = options.digest }

-- the build of a plan from these files, in which C and C++ files are scanned
abbrev pub build_at : Made → Planned → Folder → Build
build_at made planned folder = record {
  steps = planned.steps;
  wanted = planned.wanted;
  roots = planned.roots;
  folder = folder;
  inc = scan_of;
  looks = places;
  made = made;
}

-- the update of a plan that is asked for so, and begins with these files and this log
abbrev pub update_at : Made → Options → Planned → Folder → List LogLine → Update
update_at made options planned folder log = record {
  build = build_at made planned folder;
  log = log;
  scanned = is_scanned;
  unscanned = λ path bytes none. ap (λ scans. if scans then includes_of bytes else []) none;
  digest = digest_of;
  by_digest = options.by_digest;
  all = options.all;
  quit = options.quit;
  jobs = options.jobs;
}

-- the update of the plan that words and files come to, as it is asked for
abbrev pub update_for : {asking : Asking} → {disk : Disk} → Made → HasPlanFor asking disk → List LogLine → Update
update_for {asking} {disk} made plan log = update_at made (options_of plan.command.options) plan.planned disk.now log

-- What is assumed of an update between two disks: the lines of the log at entry that it uses are true, and digests tell
-- contents apart where it compares them.
pub record MeetsPremises (u : Update) (before after : Disk) : Type 0 where
  pub uses_true : UsesTrueLines u before
  pub distinct : Distinguishes u after.past

-- where judging by digests is asked for, no two contents of the past have one
abbrev pub TellsApartFor : Option BuildCommand → List Past → Type 0
TellsApartFor asked past = (command : BuildCommand) → asked ≡ Some command
    → command.options.digest ≡ true → NoCollision digest_of past

abbrev pub TellsApart : List Word → List Past → Type 0
TellsApart words past = TellsApartFor (build_command words) past

-- what is made of bytes in an update
abbrev pub making_by : Made → Making
making_by made = record { made = made; inc = scan_of; digest = digest_of }
