use Rattle.std.proofs.Common.{◌≡◌, ◌≤◌, ◌+◌, List, false, length, replicate, set, sym, ◌∙◌, ap, subst, arith}
use Rattle.b2_sched.specs.declared.state.State.{State}
use Rattle.b2_sched.specs.declared.state.State.TheVariants.{Unjudged, Settled}
use Rattle.b2_sched.specs.SchedulerCalls.{IsNew}
use Rattle.b2_sched.specs.Keeping.{IsKept, TellsFailure}
use Rattle.b2_sched.proofs.WantedFilesAddTheirMakers.{none_wanted}
use Rattle.b2_sched.proofs.CallsDoWhatIsDefined.{kept_new, is_new}
use Rattle.b2_sched.specs.Schedules.{shown}
use Rattle.b2_sched.proofs.FlagTellsFailure.{none_failed}
use Rattle.b2_sched.proofs.sched.Sched.new.Goals as goal

pub overflow_add-size : goal.overflow_add-size
overflow_add-size c = omega (arith, c.requires, ap length c.as_slice.ensures)

pub index_mut-requires : goal.index_mut-requires
index_mut-requires c = omega (arith, c.in_ok-states.ensures.len)

pub want_all-requires : goal.want_all-requires
want_all-requires c =
    let lists = c.in_ok-dependents.ensures in
    let flags = c.in_ok-looks.ensures in
    none_wanted c.args.plan.now.steps c.in_ok-dependents.dependents.items c.in_ok-looks.looks (lists.0 ∙ ap (λ xs. length xs + 1) c.as_slice.ensures) (flags.size ∙ ap (λ xs. length xs + 1) c.as_slice.ensures) lists.1 flags.empty

pub invariant_of-result : goal.invariant_of-result
invariant_of-result c = (
  (let size_is = ap (λ xs. length xs + 1) c.as_slice.ensures in
      let states_are : c.in_ok-states.states.items ≡ replicate (length c.as_slice.result.now + 1) Unjudged = c.in_ok-states.ensures.items_if_clones_equal (λ y h. h) in
      let lacking_are : c.in_ok-lacking.lacking.items ≡ replicate (length c.as_slice.result.now + 1) false = c.in_ok-lacking.ensures.items_if_clones_equal (λ y h. h) in
      let few : length c.as_slice.result.now + 1 ≤ 65537 = omega (arith, c.requires, size_is) in
      subst (λ (xs : List State). IsKept (shown c.args.jobs (set xs 0 Settled) c.want_all.new.dependents.items c.in_ok-lacking.lacking.items c.want_all.new.looks) c.in_ok-starts.starts 0) (sym states_are)
      (kept_new c.args.plan.now.steps c.args.plan.now.wanted c.args.jobs (length c.as_slice.result.now + 1) c.want_all.new.dependents.items c.in_ok-lacking.lacking.items c.want_all.new.looks c.in_ok-starts.starts
      size_is few lacking_are c.in_ok-starts.ensures.size c.in_ok-starts.ensures.empty c.in_ok-want_all.ensures)),
  (let states_are : c.in_ok-states.states.items ≡ replicate (length c.as_slice.result.now + 1) Unjudged = c.in_ok-states.ensures.items_if_clones_equal (λ y h. h) in
      subst (λ (xs : List State). TellsFailure (set xs 0 Settled) false) (sym states_are) (none_failed (length c.as_slice.result.now + 1))),
)

pub returns : goal.returns
returns c =
    let size_is = ap (λ xs. length xs + 1) c.as_slice.ensures in
    let states_are : c.in_ok-states.states.items ≡ replicate (length c.as_slice.result.now + 1) Unjudged = c.in_ok-states.ensures.items_if_clones_equal (λ y h. h) in
    let lacking_are : c.in_ok-lacking.lacking.items ≡ replicate (length c.as_slice.result.now + 1) false = c.in_ok-lacking.ensures.items_if_clones_equal (λ y h. h) in
    subst (λ (xs : List State). IsNew c.args.plan.now.steps c.args.plan.now.wanted c.args.jobs (shown c.args.jobs (set xs 0 Settled) c.want_all.new.dependents.items c.in_ok-lacking.lacking.items c.want_all.new.looks)) (sym states_are)
    (is_new c.args.plan.now.steps c.args.plan.now.wanted c.args.jobs (length c.as_slice.result.now + 1) c.want_all.new.dependents.items c.in_ok-lacking.lacking.items c.want_all.new.looks size_is lacking_are c.in_ok-want_all.ensures)
