use Rattle.std.proofs.Common.{take}
use Rattle.b2_sched.specs.Cycles.{ArePointed}
use Rattle.b2_sched.proofs.cycles.point.Given as goal

-- the dependents so far are pointed
abbrev pub invariant-loop-dependent : goal.invariant-loop-dependent
invariant-loop-dependent l = ArePointed (take l.dependent-index l.dependents) l.number l.initial.next.items l.next.items
