use Rattle.std.proofs.Common.{take}
use Rattle.b2_sched.specs.Keeping.{AreWanted}
use Rattle.b2_sched.proofs.needs.want_all.Given as goal

-- the files so far are asked for
abbrev pub invariant-loop-path : goal.invariant-loop-path
invariant-loop-path l = AreWanted l.plan.steps (take l.path-index l.path-items) l.dependents.items l.looks
