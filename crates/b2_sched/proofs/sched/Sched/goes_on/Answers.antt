use Rattle.std.proofs.Common.{◌≡◌, true, refl, sym, subst}
use Rattle.b2_sched.specs.Schedules.{shown, Schedule, GoesOn}
use Rattle.b2_sched.proofs.RestIsSkippedOrStuck.{goes_running, goes_started, goes_last}
use Rattle.b2_sched.proofs.sched.Sched.goes_on.Goals as goal

pub returns-then-self-gt0 : goal.returns-then-self-gt0
returns-then-self-gt0 c = ((λ h. subst GoesOn c.self.view_is (goes_running (shown c.self.inside.jobs c.self.inside.states.items c.self.inside.dependents.items c.self.inside.lacking.items c.self.inside.looks) c.self.inside.starts c.self.inside.running c.self.invariant.0 c.if-self-gt0.true)), (λ h. refl))

pub returns-then-is_some : goal.returns-then-is_some
returns-then-is_some c = ((λ h. subst GoesOn c.self.view_is (goes_started (shown c.self.inside.jobs c.self.inside.states.items c.self.inside.dependents.items c.self.inside.lacking.items c.self.inside.looks) c.self.inside.starts c.self.inside.running c.lowest.result c.self.invariant.0 (sym c.if-is_some.ensures) c.lowest.ensures)), (λ h. refl))

pub returns : goal.returns
returns c = subst (λ (s : Schedule). (c.is_some-2.result ≡ true → GoesOn s) × (GoesOn s → c.is_some-2.result ≡ true)) c.self.view_is
    (goes_last (shown c.self.inside.jobs c.self.inside.states.items c.self.inside.dependents.items c.self.inside.lacking.items c.self.inside.looks) c.self.inside.starts c.self.inside.running c.lowest.result c.lowest-2.result c.is_some-2.result c.self.invariant.0 c.if-self-gt0.false (sym c.if-is_some.ensures) c.lowest.ensures c.lowest-2.ensures c.is_some-2.ensures)
