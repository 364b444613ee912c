use Rattle.std.specs.Prelude.{None}
use Rattle.b2_realhost.specs.declared.system_job.SystemJob.{SystemJob}
use Rattle.b2_host.specs.ChildProcesses.{Child}

-- a process as a child: what it was given is not visible
abbrev pub child_of : SystemJob → Child
child_of job = record { step = job.step; ins = job.ins; outs = job.outs; given = None }
