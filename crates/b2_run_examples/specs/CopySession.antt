use Rattle.std.specs.Prelude.{◌≡◌, List, [], ◌∷◌, false, Some, None}
use Rattle.std.specs.List.{Contains}
use Rattle.b2_host.specs.declared.children.ChildEvent.{ChildEvent}
use Rattle.b2_host.specs.declared.children.ChildEvent.TheVariants.{Start}
use Rattle.b2_host.specs.Disks.{Disk, Past}
use Rattle.b2_host.specs.ChildProcesses.{Family}
use Rattle.b2_host.specs.Outside.{Read, Risks, Outside}
use Rattle.b2_host.specs.FileCalls.{log_path}
use Rattle.b2_runs.specs.Staleness.{Update}
use Rattle.b2_runs.specs.LogCourses.{IsLogCut}
use Rattle.b2_runs.specs.Reports.{no_lists, report}
use Rattle.b2_runs.specs.Moments.{Moment}
use Rattle.b2_runs.specs.UpdateAnswers.{UpdateAnswer, UpdateAnswer.all_went, UpdateAnswer.host_fault, HasUpdated}
use Rattle.b2_runs.specs.Sessions.{Happening.update, Happening.stop, HostUpdated, IsUpdate, IsSession}
use Rattle.b2_runs.specs.NextLaws.{IsOfSamePlan, AreEventsBetween}
use Rattle.b2_run_examples.specs.Examples.{copying, copied, disk_before, in_past, out_past, copy_bytes, with_log, family_after}

-- what stands and stood after the update that copies, the log's file among it
abbrev pub log_past : Past
log_past = record { path = log_path; file = record { stamp = 3; bytes = copy_bytes } }

abbrev pub disk_logged : Disk
disk_logged = record { now = with_log copy_bytes; past = in_past ∷ out_past ∷ log_past ∷ [] }

-- no child was started before it
abbrev pub family_idle : Family
family_idle = record { running = []; events = []; given = Some [] }

-- it reads the log, where none stands, and nothing else
abbrev pub log_read : Read
log_read = record { path = log_path; stamp = None; log = None }

-- nothing may go wrong
abbrev pub no_risks : Risks
no_risks = record { may_fail = false; wait_may_fail = false; may_end_badly = false }

abbrev pub moment_before : Moment
moment_before = record {
  host = record { disk = Some disk_before; reads = Some []; children = family_idle; faults = 0; failed_waits = 0; risks = no_risks };
  out = record { written = Some []; faults = 0; may_fail = false };
}

abbrev pub moment_after : Moment
moment_after = record {
  host = record { disk = Some disk_logged; reads = Some (log_read ∷ []); children = family_after; faults = 0; failed_waits = 0; risks = no_risks };
  out = record { written = Some (report copying.build.steps copied no_lists); faults = 0; may_fail = false };
}

-- The update that copies has done all that an update does which answers that all went well; so it alone is a session.
pub record CopySessionHolds : Type 0 where
  pub updated : HasUpdated copying all_went moment_before.host moment_after.host disk_before disk_logged
  pub session : IsSession IsUpdate moment_before (update copying ∷ []) (all_went ∷ []) moment_after
  -- an update of the same plan that follows it, and does not run all, starts nothing
  pub starts_nothing_more : (v : Update) (answer : UpdateAnswer) (again last : Outside) (later : List ChildEvent) → again.disk ≡ Some disk_logged → HostUpdated v answer again last → IsOfSamePlan copying v → AreEventsBetween again last later → ¬ Contains later (Start 1)
  -- where the writing stopped at the line of the start, the log has no record, though the step was then done well
  pub no_record : ¬ IsLogCut copying (Start 1 ∷ []) disk_logged.now
  -- no session has an update or a stop that answers a fault of the host where no call failed
  pub no_silent_update : ¬ IsSession IsUpdate moment_before (update copying ∷ []) (host_fault ∷ []) moment_before
  pub no_silent_stop : ¬ IsSession IsUpdate moment_before (stop copying ∷ []) (host_fault ∷ []) moment_before
