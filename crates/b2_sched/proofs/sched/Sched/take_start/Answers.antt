use Rattle.std.proofs.Common.{inr, ◌+◌, ◌≤◌, List, Bool, get_or, sym, ap, subst, arith}
use Rattle.std.specs.Option.{MatchOption}
use Rattle.b2_sched.specs.declared.state.State.TheVariants.{Stale, Running, Settled, Failed}
use Rattle.b2_sched.specs.Schedules.{shown, Schedule, running}
use Rattle.b2_sched.specs.SchedulerCalls.{with_start, StartsNext, StartsNone}
use Rattle.b2_sched.specs.Keeping.{IsKept}
use Rattle.b2_sched.proofs.ChangesKeepTheInvariant.{kept_start, not_two}
use Rattle.b2_sched.proofs.CallsDoWhatIsDefined.{starts_next, starts_none}
use Rattle.b2_sched.proofs.FlagTellsFailure.{failure_stays}
use Rattle.b2_sched.proofs.sched.Sched.take_start.Goals as goal

pub returns-then-self-clause-lowest : goal.returns-then-self-clause-lowest
returns-then-self-clause-lowest c =
    let v : Schedule = shown c.self.inside.jobs c.self.inside.states.items c.self.inside.dependents.items c.self.inside.lacking.items c.self.inside.looks in
    let full : v.jobs ≤ running v = omega (arith, c.if-self.true, c.self.invariant.0.count_is) in
    subst StartsNone c.self.view_is (inr full)

pub returns-in_err-step-clause-lowest : goal.returns-in_err-step-clause-lowest
returns-in_err-step-clause-lowest c =
    let v : Schedule = shown c.self.inside.jobs c.self.inside.states.items c.self.inside.dependents.items c.self.inside.lacking.items c.self.inside.looks in
    subst (λ r. MatchOption r (StartsNone c.args.self.now) (StartsNext c.args.self.now)) (sym c.from_residual.ensures)
    (subst StartsNone c.self.view_is (starts_none v c.self.inside.starts c.self.inside.running c.self.invariant.0 c.in_err-step.ensures))

pub remove-requires : goal.remove-requires
remove-requires c = c.in_ok-step.ensures.within

pub index_mut-requires : goal.index_mut-requires
index_mut-requires c = omega (arith, c.in_ok-step.ensures.within, c.self.invariant.0.starts_size)

pub overflow_cast-result : goal.overflow_cast-result
overflow_cast-result c = omega (arith, c.in_ok-step.ensures.within, c.self.invariant.0.starts_size, c.self.invariant.0.few)

pub invariant_of-self : goal.invariant_of-self
invariant_of-self c = (
  (let v : Schedule = shown c.self.inside.jobs c.self.inside.states.items c.self.inside.dependents.items c.self.inside.lacking.items c.self.inside.looks in
      subst (λ (fs : List Bool). IsKept (with_start v c.in_ok-step.step) fs (c.self.inside.running + 1)) (sym c.remove.ensures)
      (kept_start v c.self.inside.starts c.self.inside.running c.in_ok-step.step c.self.invariant.0 ((c.self.invariant.0.starts_are c.in_ok-step.step).0 c.in_ok-step.ensures.has))),
  failure_stays c.self.inside.states.items c.self.inside.any_failed c.in_ok-step.step Running (omega (arith, c.in_ok-step.ensures.within, c.self.invariant.0.starts_size))
      (λ e. not_two (get_or c.self.inside.states.items c.in_ok-step.step Settled) Stale Failed ((c.self.invariant.0.starts_are c.in_ok-step.step).0 c.in_ok-step.ensures.has) e (λ f. cc)) (λ e. cc) c.self.invariant.1,
)

pub returns-clause-lowest : goal.returns-clause-lowest
returns-clause-lowest c =
    let v : Schedule = shown c.self.inside.jobs c.self.inside.states.items c.self.inside.dependents.items c.self.inside.lacking.items c.self.inside.looks in
    subst (λ (s : Schedule). StartsNext s c.in_ok-step.step) c.self.view_is (starts_next v c.self.inside.starts c.self.inside.running c.in_ok-step.step c.self.invariant.0 c.in_ok-step.ensures c.if-self.false)

pub returns-clause-after : goal.returns-clause-after
returns-clause-after c = ap (λ (s : Schedule). with_start s c.in_ok-step.step) c.self.view_is
