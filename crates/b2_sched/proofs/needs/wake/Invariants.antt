use Rattle.std.proofs.Common.{take}
use Rattle.b2_sched.specs.Keeping.{IsWoken}
use Rattle.b2_sched.proofs.needs.wake.Given as goal

-- the dependents so far are woken
abbrev pub invariant-loop-dependent : goal.invariant-loop-dependent
invariant-loop-dependent l = IsWoken l.states (take l.dependent-index l.dependents) l.initial.looks l.looks
