use Rattle.std.specs.Prelude.{None, map}
use Rattle.b2_host.specs.ChildProcesses.{Child, Family}
use Rattle.b2_host.specs.Outside.{Outside}

-- a child process, without what it was given
abbrev pub forgotten : Child → Child
forgotten child = record { step = child.step; ins = child.ins; outs = child.outs; given = None }

-- the child processes of a host whose files are not visible, as one whose files are visible has them
abbrev pub untold : Family → Family
untold family = record { running = map forgotten family.running; events = family.events; given = None }

-- the same of all that a host is to its callers
abbrev pub hidden : Outside → Outside
hidden outside = record outside { disk = None; reads = None; children = untold outside.children }
