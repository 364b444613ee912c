use Rattle.std.proofs.Common.{List, Bool, sym, ◌∙◌, ap, subst}
use Rattle.b2_sched.specs.Schedules.{shown, Schedule}
use Rattle.b2_sched.specs.SchedulerCalls.{looked_at}
use Rattle.b2_sched.specs.Keeping.{IsKept, LooksNext}
use Rattle.b2_sched.proofs.ChangesKeepTheInvariant.{kept_looked, looks_next}
use Rattle.b2_sched.proofs.sched.Sched.take_look.Goals as goal

pub invariant_of-self : goal.invariant_of-self
invariant_of-self c = (
  (let v : Schedule = shown c.self.inside.jobs c.self.inside.states.items c.self.inside.dependents.items c.self.inside.lacking.items c.self.inside.looks in
      subst (λ (fs : List Bool). IsKept (shown v.jobs v.states v.dependents v.lacking fs) c.self.inside.starts c.self.inside.running) (sym c.remove.ensures)
      (kept_looked v c.self.inside.starts c.self.inside.running c.in_ok-step.step c.self.invariant.0 c.in_ok-step.ensures.within)),
  c.self.invariant.1,
)

pub returns-clause-lowest : goal.returns-clause-lowest
returns-clause-lowest c =
    let v : Schedule = shown c.self.inside.jobs c.self.inside.states.items c.self.inside.dependents.items c.self.inside.lacking.items c.self.inside.looks in
    subst (λ (s : Schedule). LooksNext s c.in_ok-step.step) c.self.view_is (looks_next v c.self.inside.starts c.self.inside.running c.in_ok-step.step c.self.invariant.0 c.in_ok-step.ensures)

pub returns-clause-after : goal.returns-clause-after
returns-clause-after c =
    let v : Schedule = shown c.self.inside.jobs c.self.inside.states.items c.self.inside.dependents.items c.self.inside.lacking.items c.self.inside.looks in
    ap (λ fs. shown v.jobs v.states v.dependents v.lacking fs) c.remove.ensures ∙ ap (λ (s : Schedule). looked_at s c.in_ok-step.step) c.self.view_is
