use Rattle.std.proofs.Common.{◌≡◌, ℕ, ◌-◌, ◌<◌, cond, length, set, sym, ◌∙◌, ap, subst, arith}
use Rattle.std.proofs.Math.ListN.{length-set}
use Rattle.b2_sched.specs.declared.state.State.TheVariants.{Unjudged, Stale, Running, Settled, Failed}
use Rattle.b2_sched.specs.Schedules.{shown, Schedule, IsRunning, state_of, is_running}
use Rattle.b2_sched.specs.SchedulerCalls.{with_failure, Settles}
use Rattle.b2_sched.proofs.ChangesKeepTheInvariant.{step_if_not_settled, asked_if_judged, kept_failure, kept_settled, not_two}
use Rattle.b2_sched.proofs.CallsDoWhatIsDefined.{settles_ended, some_runs, woken_read, read_within}
use Rattle.b2_sched.proofs.FlagTellsFailure.{failure_stays, failure_comes}
use Rattle.b2_sched.proofs.sched.Sched.finish.Goals as goal

pub overflow_sub-self : goal.overflow_sub-self
overflow_sub-self c =
    let v : Schedule = shown c.self.inside.jobs c.self.inside.states.items c.self.inside.dependents.items c.self.inside.lacking.items c.self.inside.looks in
    let runs : IsRunning v c.args.step = subst (λ (s : Schedule). IsRunning s c.args.step) (sym c.self.view_is) c.requires in
    let step_is = step_if_not_settled v c.self.inside.starts c.self.inside.running c.args.step c.self.invariant.0 (λ e. not_two (state_of v c.args.step) Running Settled runs e (λ f. cc)) in
    let some = some_runs v c.args.step step_is.within runs in omega (arith, some, c.self.invariant.0.count_is)

pub index_mut-requires : goal.index_mut-requires
index_mut-requires c =
    let v : Schedule = shown c.self.inside.jobs c.self.inside.states.items c.self.inside.dependents.items c.self.inside.lacking.items c.self.inside.looks in
    let runs : IsRunning v c.args.step = subst (λ (s : Schedule). IsRunning s c.args.step) (sym c.self.view_is) c.requires in
    let step_is = step_if_not_settled v c.self.inside.starts c.self.inside.running c.args.step c.self.invariant.0 (λ e. not_two (state_of v c.args.step) Running Settled runs e (λ f. cc)) in omega (arith, step_is.within)

pub index_mut-requires-else-ok : goal.index_mut-requires-else-ok
index_mut-requires-else-ok c =
    let v : Schedule = shown c.self.inside.jobs c.self.inside.states.items c.self.inside.dependents.items c.self.inside.lacking.items c.self.inside.looks in
    let runs : IsRunning v c.args.step = subst (λ (s : Schedule). IsRunning s c.args.step) (sym c.self.view_is) c.requires in
    let step_is = step_if_not_settled v c.self.inside.starts c.self.inside.running c.args.step c.self.invariant.0 (λ e. not_two (state_of v c.args.step) Running Settled runs e (λ f. cc)) in omega (arith, step_is.within)

pub index-requires : goal.index-requires
index-requires c =
    let v : Schedule = shown c.self.inside.jobs c.self.inside.states.items c.self.inside.dependents.items c.self.inside.lacking.items c.self.inside.looks in
    let runs : IsRunning v c.args.step = subst (λ (s : Schedule). IsRunning s c.args.step) (sym c.self.view_is) c.requires in
    let step_is = step_if_not_settled v c.self.inside.starts c.self.inside.running c.args.step c.self.invariant.0 (λ e. not_two (state_of v c.args.step) Running Settled runs e (λ f. cc)) in omega (arith, step_is.within, c.self.invariant.0.dependents_size)

pub wake-requires-clause-size : goal.wake-requires-clause-size
wake-requires-clause-size c =
    let v : Schedule = shown c.self.inside.jobs c.self.inside.states.items c.self.inside.dependents.items c.self.inside.lacking.items c.self.inside.looks in
    c.self.invariant.0.looks_size ∙ sym (ap length c.deref.ensures.value ∙ length-set v.states c.args.step Settled)

pub wake-requires-clause-within : goal.wake-requires-clause-within
wake-requires-clause-within c =
    let v : Schedule = shown c.self.inside.jobs c.self.inside.states.items c.self.inside.dependents.items c.self.inside.lacking.items c.self.inside.looks in
    let runs : IsRunning v c.args.step = subst (λ (s : Schedule). IsRunning s c.args.step) (sym c.self.view_is) c.requires in
    let step_is = step_if_not_settled v c.self.inside.starts c.self.inside.running c.args.step c.self.invariant.0 (λ e. not_two (state_of v c.args.step) Running Settled runs e (λ f. cc)) in
    let inside : c.args.step < length v.dependents = omega (arith, step_is.within, c.self.invariant.0.dependents_size) in
    read_within v c.self.inside.starts c.self.inside.running c.args.step c.deref.result.now c.index.result.now c.as_slice.result.now c.self.invariant.0 inside c.deref.ensures.value c.as_slice.ensures c.index.ensures

pub invariant_of-self : goal.invariant_of-self
invariant_of-self c = (
  (let v : Schedule = shown c.self.inside.jobs c.self.inside.states.items c.self.inside.dependents.items c.self.inside.lacking.items c.self.inside.looks in
      let runs : IsRunning v c.args.step = subst (λ (s : Schedule). IsRunning s c.args.step) (sym c.self.view_is) c.requires in
      let step_is = step_if_not_settled v c.self.inside.starts c.self.inside.running c.args.step c.self.invariant.0 (λ e. not_two (state_of v c.args.step) Running Settled runs e (λ f. cc)) in
      let some = some_runs v c.args.step step_is.within runs in
      let inside : c.args.step < length v.dependents = omega (arith, step_is.within, c.self.invariant.0.dependents_size) in
      let settles = settles_ended v c.self.inside.starts c.self.inside.running c.args.step c.wake.new.looks c.self.invariant.0 runs
      (woken_read v c.args.step c.deref.result.now c.index.result.now c.as_slice.result.now c.self.inside.looks c.wake.new.looks inside c.deref.ensures.value c.as_slice.ensures c.index.ensures c.wake.ensures) in
      let one : cond {A = ℕ} (is_running (state_of v c.args.step)) 1 0 ≡ 1 = ap (λ x. cond {A = ℕ} (is_running x) 1 0) runs in
      kept_settled v (shown v.jobs (set v.states c.args.step Settled) v.dependents v.lacking c.wake.new.looks) c.self.inside.starts c.self.inside.running (c.self.inside.running - 1) c.args.step c.self.invariant.0 step_is
      (asked_if_judged v c.self.inside.starts c.self.inside.running c.args.step c.self.invariant.0 step_is (λ e. not_two (state_of v c.args.step) Running Unjudged runs e (λ f. cc)))
      (λ e. not_two (state_of v c.args.step) Running Stale runs e (λ f. cc)) settles (omega (arith, one, some, c.self.invariant.0.count_is))),
  (let v : Schedule = shown c.self.inside.jobs c.self.inside.states.items c.self.inside.dependents.items c.self.inside.lacking.items c.self.inside.looks in
      let runs : IsRunning v c.args.step = subst (λ (s : Schedule). IsRunning s c.args.step) (sym c.self.view_is) c.requires in
      let step_is = step_if_not_settled v c.self.inside.starts c.self.inside.running c.args.step c.self.invariant.0 (λ e. not_two (state_of v c.args.step) Running Settled runs e (λ f. cc)) in
      failure_stays c.self.inside.states.items c.self.inside.any_failed c.args.step Settled step_is.within (λ e. not_two (state_of v c.args.step) Running Failed runs e (λ f. cc)) (λ e. cc) c.self.invariant.1),
)

pub invariant_of-self-else-ok : goal.invariant_of-self-else-ok
invariant_of-self-else-ok c = (
  (let v : Schedule = shown c.self.inside.jobs c.self.inside.states.items c.self.inside.dependents.items c.self.inside.lacking.items c.self.inside.looks in
      let runs : IsRunning v c.args.step = subst (λ (s : Schedule). IsRunning s c.args.step) (sym c.self.view_is) c.requires in
      let step_is = step_if_not_settled v c.self.inside.starts c.self.inside.running c.args.step c.self.invariant.0 (λ e. not_two (state_of v c.args.step) Running Settled runs e (λ f. cc)) in
      let some = some_runs v c.args.step step_is.within runs in
      kept_failure v c.self.inside.starts c.self.inside.running (c.self.inside.running - 1) c.args.step c.self.invariant.0 runs (omega (arith, some, c.self.invariant.0.count_is))),
  (let v : Schedule = shown c.self.inside.jobs c.self.inside.states.items c.self.inside.dependents.items c.self.inside.lacking.items c.self.inside.looks in
      let runs : IsRunning v c.args.step = subst (λ (s : Schedule). IsRunning s c.args.step) (sym c.self.view_is) c.requires in
      let step_is = step_if_not_settled v c.self.inside.starts c.self.inside.running c.args.step c.self.invariant.0 (λ e. not_two (state_of v c.args.step) Running Settled runs e (λ f. cc)) in
      failure_comes c.self.inside.states.items c.args.step step_is.within),
)

pub returns-then-ok-clause-ok : goal.returns-then-ok-clause-ok
returns-then-ok-clause-ok c =
    let v : Schedule = shown c.self.inside.jobs c.self.inside.states.items c.self.inside.dependents.items c.self.inside.lacking.items c.self.inside.looks in
    let runs : IsRunning v c.args.step = subst (λ (s : Schedule). IsRunning s c.args.step) (sym c.self.view_is) c.requires in
    let step_is = step_if_not_settled v c.self.inside.starts c.self.inside.running c.args.step c.self.invariant.0 (λ e. not_two (state_of v c.args.step) Running Settled runs e (λ f. cc)) in
    let inside : c.args.step < length v.dependents = omega (arith, step_is.within, c.self.invariant.0.dependents_size) in
    let settles = settles_ended v c.self.inside.starts c.self.inside.running c.args.step c.wake.new.looks c.self.invariant.0 runs
    (woken_read v c.args.step c.deref.result.now c.index.result.now c.as_slice.result.now c.self.inside.looks c.wake.new.looks inside c.deref.ensures.value c.as_slice.ensures c.index.ensures c.wake.ensures) in
    λ h. subst (λ (s : Schedule). Settles s c.args.step (shown v.jobs (set v.states c.args.step Settled) v.dependents v.lacking c.wake.new.looks)) c.self.view_is settles

pub returns-else-ok-clause-failed : goal.returns-else-ok-clause-failed
returns-else-ok-clause-failed c = λ h. ap (λ (s : Schedule). with_failure s c.args.step) c.self.view_is
