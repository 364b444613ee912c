use Rattle.std.proofs.Common.{◌≡◌, ℕ, ◌<◌, List, Bool, false, cond, length, set, sym, ◌∙◌, ap, subst, arith}
use Rattle.std.proofs.Math.ListN.{length-set}
use Rattle.b2_sched.specs.declared.state.State.TheVariants.{Unjudged, Stale, Settled, Failed}
use Rattle.b2_sched.specs.Schedules.{shown, Schedule, IsNeeded, IsUnjudged, state_of, is_running}
use Rattle.b2_sched.specs.SchedulerCalls.{with_stale, Settles}
use Rattle.b2_sched.specs.Keeping.{IsKept}
use Rattle.b2_sched.proofs.ChangesKeepTheInvariant.{asked_if_needed, step_if_asked, kept_stale, kept_settled, not_two}
use Rattle.b2_sched.proofs.CallsDoWhatIsDefined.{settles_judged, woken_read, read_within}
use Rattle.b2_sched.proofs.FlagTellsFailure.{failure_stays}
use Rattle.b2_sched.proofs.sched.Sched.judge.Goals as goal

pub remove-requires : goal.remove-requires
remove-requires c =
    let v : Schedule = shown c.self.inside.jobs c.self.inside.states.items c.self.inside.dependents.items c.self.inside.lacking.items c.self.inside.looks in
    let needed : IsNeeded v c.args.step = subst (λ (s : Schedule). IsNeeded s c.args.step) (sym c.self.view_is) c.requires.needed in
    let asked = asked_if_needed v c.args.step needed in
    let step_is = step_if_asked v c.self.inside.starts c.self.inside.running c.self.invariant.0 c.args.step asked in omega (arith, step_is.within, c.self.invariant.0.looks_size)

pub index_mut-requires : goal.index_mut-requires
index_mut-requires c =
    let v : Schedule = shown c.self.inside.jobs c.self.inside.states.items c.self.inside.dependents.items c.self.inside.lacking.items c.self.inside.looks in
    let needed : IsNeeded v c.args.step = subst (λ (s : Schedule). IsNeeded s c.args.step) (sym c.self.view_is) c.requires.needed in
    let asked = asked_if_needed v c.args.step needed in
    let step_is = step_if_asked v c.self.inside.starts c.self.inside.running c.self.invariant.0 c.args.step asked in omega (arith, step_is.within)

pub insert-requires : goal.insert-requires
insert-requires c =
    let v : Schedule = shown c.self.inside.jobs c.self.inside.states.items c.self.inside.dependents.items c.self.inside.lacking.items c.self.inside.looks in
    let needed : IsNeeded v c.args.step = subst (λ (s : Schedule). IsNeeded s c.args.step) (sym c.self.view_is) c.requires.needed in
    let asked = asked_if_needed v c.args.step needed in
    let step_is = step_if_asked v c.self.inside.starts c.self.inside.running c.self.invariant.0 c.args.step asked in omega (arith, step_is.within, c.self.invariant.0.starts_size)

pub index_mut-requires-else-stale : goal.index_mut-requires-else-stale
index_mut-requires-else-stale c =
    let v : Schedule = shown c.self.inside.jobs c.self.inside.states.items c.self.inside.dependents.items c.self.inside.lacking.items c.self.inside.looks in
    let needed : IsNeeded v c.args.step = subst (λ (s : Schedule). IsNeeded s c.args.step) (sym c.self.view_is) c.requires.needed in
    let asked = asked_if_needed v c.args.step needed in
    let step_is = step_if_asked v c.self.inside.starts c.self.inside.running c.self.invariant.0 c.args.step asked in omega (arith, step_is.within)

pub index-requires : goal.index-requires
index-requires c =
    let v : Schedule = shown c.self.inside.jobs c.self.inside.states.items c.self.inside.dependents.items c.self.inside.lacking.items c.self.inside.looks in
    let needed : IsNeeded v c.args.step = subst (λ (s : Schedule). IsNeeded s c.args.step) (sym c.self.view_is) c.requires.needed in
    let asked = asked_if_needed v c.args.step needed in
    let step_is = step_if_asked v c.self.inside.starts c.self.inside.running c.self.invariant.0 c.args.step asked in omega (arith, step_is.within, c.self.invariant.0.dependents_size)

pub wake-requires-clause-size : goal.wake-requires-clause-size
wake-requires-clause-size c =
    let v : Schedule = shown c.self.inside.jobs c.self.inside.states.items c.self.inside.dependents.items c.self.inside.lacking.items c.self.inside.looks in
    ap length c.remove.ensures ∙ length-set v.looks c.args.step false ∙ c.self.invariant.0.looks_size ∙ sym (ap length c.deref.ensures.value ∙ length-set v.states c.args.step Settled)

pub wake-requires-clause-within : goal.wake-requires-clause-within
wake-requires-clause-within c =
    let v : Schedule = shown c.self.inside.jobs c.self.inside.states.items c.self.inside.dependents.items c.self.inside.lacking.items c.self.inside.looks in
    let needed : IsNeeded v c.args.step = subst (λ (s : Schedule). IsNeeded s c.args.step) (sym c.self.view_is) c.requires.needed in
    let asked = asked_if_needed v c.args.step needed in
    let step_is = step_if_asked v c.self.inside.starts c.self.inside.running c.self.invariant.0 c.args.step asked in
    let inside : c.args.step < length v.dependents = omega (arith, step_is.within, c.self.invariant.0.dependents_size) in
    read_within v c.self.inside.starts c.self.inside.running c.args.step c.deref.result.now c.index.result.now c.as_slice.result.now c.self.invariant.0 inside c.deref.ensures.value c.as_slice.ensures c.index.ensures

pub invariant_of-self : goal.invariant_of-self
invariant_of-self c = (
  (let v : Schedule = shown c.self.inside.jobs c.self.inside.states.items c.self.inside.dependents.items c.self.inside.lacking.items c.self.inside.looks in
      let needed : IsNeeded v c.args.step = subst (λ (s : Schedule). IsNeeded s c.args.step) (sym c.self.view_is) c.requires.needed in
      let asked = asked_if_needed v c.args.step needed in
      let step_is = step_if_asked v c.self.inside.starts c.self.inside.running c.self.invariant.0 c.args.step asked in
      let unjudged : IsUnjudged v c.args.step = subst (λ (s : Schedule). IsUnjudged s c.args.step) (sym c.self.view_is) c.requires.unjudged in
      subst (λ (fs : List Bool). IsKept (shown v.jobs (set v.states c.args.step Stale) v.dependents v.lacking fs) c.insert.new.self c.self.inside.running) (sym c.remove.ensures)
      (subst (λ (fs : List Bool). IsKept (with_stale v c.args.step) fs c.self.inside.running) (sym c.insert.ensures) (kept_stale v c.self.inside.starts c.self.inside.running c.args.step c.self.invariant.0 step_is asked unjudged))),
  (let v : Schedule = shown c.self.inside.jobs c.self.inside.states.items c.self.inside.dependents.items c.self.inside.lacking.items c.self.inside.looks in
      let needed : IsNeeded v c.args.step = subst (λ (s : Schedule). IsNeeded s c.args.step) (sym c.self.view_is) c.requires.needed in
      let step_is = step_if_asked v c.self.inside.starts c.self.inside.running c.self.invariant.0 c.args.step (asked_if_needed v c.args.step needed) in
      let unjudged : IsUnjudged v c.args.step = subst (λ (s : Schedule). IsUnjudged s c.args.step) (sym c.self.view_is) c.requires.unjudged in
      failure_stays c.self.inside.states.items c.self.inside.any_failed c.args.step Stale step_is.within (λ e. not_two (state_of v c.args.step) Unjudged Failed unjudged e (λ f. cc)) (λ e. cc) c.self.invariant.1),
)

pub invariant_of-self-else-stale : goal.invariant_of-self-else-stale
invariant_of-self-else-stale c = (
  (let v : Schedule = shown c.self.inside.jobs c.self.inside.states.items c.self.inside.dependents.items c.self.inside.lacking.items c.self.inside.looks in
      let needed : IsNeeded v c.args.step = subst (λ (s : Schedule). IsNeeded s c.args.step) (sym c.self.view_is) c.requires.needed in
      let asked = asked_if_needed v c.args.step needed in
      let step_is = step_if_asked v c.self.inside.starts c.self.inside.running c.self.invariant.0 c.args.step asked in
      let unjudged : IsUnjudged v c.args.step = subst (λ (s : Schedule). IsUnjudged s c.args.step) (sym c.self.view_is) c.requires.unjudged in
      let inside : c.args.step < length v.dependents = omega (arith, step_is.within, c.self.invariant.0.dependents_size) in
      let settles = settles_judged v c.self.inside.starts c.self.inside.running c.args.step c.remove.new.self c.wake.new.looks c.self.invariant.0 step_is c.remove.ensures
      (woken_read v c.args.step c.deref.result.now c.index.result.now c.as_slice.result.now c.remove.new.self c.wake.new.looks inside c.deref.ensures.value c.as_slice.ensures c.index.ensures c.wake.ensures) in
      let none : cond {A = ℕ} (is_running (state_of v c.args.step)) 1 0 ≡ 0 = ap (λ x. cond {A = ℕ} (is_running x) 1 0) unjudged in
      kept_settled v (shown v.jobs (set v.states c.args.step Settled) v.dependents v.lacking c.wake.new.looks) c.self.inside.starts c.self.inside.running c.self.inside.running c.args.step c.self.invariant.0 step_is asked
      (λ e. not_two (state_of v c.args.step) Unjudged Stale unjudged e (λ f. cc)) settles (omega (arith, none))),
  (let v : Schedule = shown c.self.inside.jobs c.self.inside.states.items c.self.inside.dependents.items c.self.inside.lacking.items c.self.inside.looks in
      let needed : IsNeeded v c.args.step = subst (λ (s : Schedule). IsNeeded s c.args.step) (sym c.self.view_is) c.requires.needed in
      let step_is = step_if_asked v c.self.inside.starts c.self.inside.running c.self.invariant.0 c.args.step (asked_if_needed v c.args.step needed) in
      let unjudged : IsUnjudged v c.args.step = subst (λ (s : Schedule). IsUnjudged s c.args.step) (sym c.self.view_is) c.requires.unjudged in
      failure_stays c.self.inside.states.items c.self.inside.any_failed c.args.step Settled step_is.within (λ e. not_two (state_of v c.args.step) Unjudged Failed unjudged e (λ f. cc)) (λ e. cc) c.self.invariant.1),
)

pub returns-then-stale-clause-stale : goal.returns-then-stale-clause-stale
returns-then-stale-clause-stale c =
    let v : Schedule = shown c.self.inside.jobs c.self.inside.states.items c.self.inside.dependents.items c.self.inside.lacking.items c.self.inside.looks in
    λ h. ap (λ fs. shown v.jobs (set v.states c.args.step Stale) v.dependents v.lacking fs) c.remove.ensures ∙ ap (λ (s : Schedule). with_stale s c.args.step) c.self.view_is

pub returns-else-stale-clause-fresh : goal.returns-else-stale-clause-fresh
returns-else-stale-clause-fresh c =
    let v : Schedule = shown c.self.inside.jobs c.self.inside.states.items c.self.inside.dependents.items c.self.inside.lacking.items c.self.inside.looks in
    let needed : IsNeeded v c.args.step = subst (λ (s : Schedule). IsNeeded s c.args.step) (sym c.self.view_is) c.requires.needed in
    let asked = asked_if_needed v c.args.step needed in
    let step_is = step_if_asked v c.self.inside.starts c.self.inside.running c.self.invariant.0 c.args.step asked in
    let inside : c.args.step < length v.dependents = omega (arith, step_is.within, c.self.invariant.0.dependents_size) in
    let settles = settles_judged v c.self.inside.starts c.self.inside.running c.args.step c.remove.new.self c.wake.new.looks c.self.invariant.0 step_is c.remove.ensures
    (woken_read v c.args.step c.deref.result.now c.index.result.now c.as_slice.result.now c.remove.new.self c.wake.new.looks inside c.deref.ensures.value c.as_slice.ensures c.index.ensures c.wake.ensures) in
    λ h. subst (λ (s : Schedule). Settles s c.args.step (shown v.jobs (set v.states c.args.step Settled) v.dependents v.lacking c.wake.new.looks)) c.self.view_is settles
