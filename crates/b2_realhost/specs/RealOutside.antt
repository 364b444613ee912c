use Rattle.std.specs.Prelude.{ℕ, List, true, None, map}
use Rattle.b2_host.specs.declared.children.ChildEvent.{ChildEvent}
use Rattle.b2_host.specs.Outside.{Outside}
use Rattle.b2_realhost.specs.declared.system_job.SystemJob.{SystemJob}
use Rattle.b2_realhost.specs.Jobs.{child_of}

-- what the real host is to its callers: its files and reads are not visible, and all may go wrong
abbrev pub outside_of : List SystemJob → List ChildEvent → ℕ → ℕ → Outside
outside_of jobs events faults failed_waits = record {
  disk = None;
  reads = None;
  children = record { running = map child_of jobs; events = events; given = None };
  faults = faults;
  failed_waits = failed_waits;
  risks = record { may_fail = true; wait_may_fail = true; may_end_badly = true };
}
