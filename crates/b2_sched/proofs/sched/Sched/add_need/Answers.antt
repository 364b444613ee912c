use Rattle.std.proofs.Common.{◌≡◌, get_or, ◌<◌, ℕ, List, true, false, length, sym, ◌∙◌, ap, subst, refl, arith}
use Rattle.b2_sched.specs.Schedules.{shown, Schedule, IsSettled, IsNeeded, IsStep}
use Rattle.b2_sched.specs.SchedulerCalls.{with_need}
use Rattle.b2_sched.specs.Keeping.{IsKept}
use Rattle.b2_sched.proofs.ChangesKeepTheInvariant.{kept_need}
use Rattle.b2_sched.proofs.CallsDoWhatIsDefined.{set_same, need_written}
use Rattle.b2_sched.proofs.sched.Sched.add_need.Goals as goal

pub index_mut-list-requires : goal.index_mut-list-requires
index_mut-list-requires c =
    let within = subst (λ (s : Schedule). c.args.on < length s.states) (sym c.self.view_is) c.requires.on.within in
    omega (arith, within, c.self.invariant.0.dependents_size)

pub invariant_of-self : goal.invariant_of-self
invariant_of-self c = (
  (let same : c.push.new.self ≡ get_or c.self.inside.dependents.items c.args.on c.push.new.self = subst (λ (l : List ℕ). l ≡ get_or c.self.inside.dependents.items c.args.on l) (sym c.in_err-push.ensures.err) c.index_mut-list.ensures.value in
      subst (λ (ds : List (List ℕ)). IsKept (shown c.self.inside.jobs c.self.inside.states.items ds c.self.inside.lacking.items c.self.inside.looks) c.self.inside.starts c.self.inside.running)
      (sym (set_same c.self.inside.dependents.items c.args.on c.push.new.self same)) c.self.invariant.0),
  c.self.invariant.1,
)

pub insert-requires : goal.insert-requires
insert-requires c =
    let within = subst (λ (s : Schedule). c.args.on < length s.states) (sym c.self.view_is) c.requires.on.within in
    omega (arith, within, c.self.invariant.0.looks_size)

pub invariant_of-self-then-is_first : goal.invariant_of-self-then-is_first
invariant_of-self-then-is_first c = (
  (let v : Schedule = shown c.self.inside.jobs c.self.inside.states.items c.self.inside.dependents.items c.self.inside.lacking.items c.self.inside.looks in
      let within = subst (λ (s : Schedule). c.args.on < length s.states) (sym c.self.view_is) c.requires.on.within in
      subst (λ (t : Schedule). IsKept t c.self.inside.starts c.self.inside.running) (sym (need_written v c.args.step c.args.on c.index_mut-list.result.now c.as_slice.result.now c.push.new.self true c.insert.new.self (omega (arith, within, c.self.invariant.0.dependents_size)) c.index_mut-list.ensures.value c.as_slice.ensures c.if-is_first.ensures c.in_ok-push.ensures.ok c.insert.ensures))
      (kept_need v c.self.inside.starts c.self.inside.running c.args.step c.args.on c.self.invariant.0
      (subst (λ (s : Schedule). IsNeeded s c.args.step) (sym c.self.view_is) c.requires.step) (subst (λ (s : Schedule). IsStep s c.args.on) (sym c.self.view_is) c.requires.on) (subst (λ (s : Schedule). IsSettled s c.args.on → ⊥) (sym c.self.view_is) c.requires.not_settled))),
  c.self.invariant.1,
)

pub invariant_of-self-else-is_first : goal.invariant_of-self-else-is_first
invariant_of-self-else-is_first c = (
  (let v : Schedule = shown c.self.inside.jobs c.self.inside.states.items c.self.inside.dependents.items c.self.inside.lacking.items c.self.inside.looks in
      let within = subst (λ (s : Schedule). c.args.on < length s.states) (sym c.self.view_is) c.requires.on.within in
      subst (λ (t : Schedule). IsKept t c.self.inside.starts c.self.inside.running) (sym (need_written v c.args.step c.args.on c.index_mut-list.result.now c.as_slice.result.now c.push.new.self false c.self.inside.looks (omega (arith, within, c.self.invariant.0.dependents_size)) c.index_mut-list.ensures.value c.as_slice.ensures c.if-is_first.ensures c.in_ok-push.ensures.ok refl))
      (kept_need v c.self.inside.starts c.self.inside.running c.args.step c.args.on c.self.invariant.0
      (subst (λ (s : Schedule). IsNeeded s c.args.step) (sym c.self.view_is) c.requires.step) (subst (λ (s : Schedule). IsStep s c.args.on) (sym c.self.view_is) c.requires.on) (subst (λ (s : Schedule). IsSettled s c.args.on → ⊥) (sym c.self.view_is) c.requires.not_settled))),
  c.self.invariant.1,
)

pub returns-then-is_first-clause-ok : goal.returns-then-is_first-clause-ok
returns-then-is_first-clause-ok c =
    let v : Schedule = shown c.self.inside.jobs c.self.inside.states.items c.self.inside.dependents.items c.self.inside.lacking.items c.self.inside.looks in
    let within = subst (λ (s : Schedule). c.args.on < length s.states) (sym c.self.view_is) c.requires.on.within in
    need_written v c.args.step c.args.on c.index_mut-list.result.now c.as_slice.result.now c.push.new.self true c.insert.new.self (omega (arith, within, c.self.invariant.0.dependents_size)) c.index_mut-list.ensures.value c.as_slice.ensures c.if-is_first.ensures c.in_ok-push.ensures.ok c.insert.ensures ∙ ap (λ (s : Schedule). with_need s c.args.step c.args.on) c.self.view_is

pub returns-else-is_first-clause-ok : goal.returns-else-is_first-clause-ok
returns-else-is_first-clause-ok c =
    let v : Schedule = shown c.self.inside.jobs c.self.inside.states.items c.self.inside.dependents.items c.self.inside.lacking.items c.self.inside.looks in
    let within = subst (λ (s : Schedule). c.args.on < length s.states) (sym c.self.view_is) c.requires.on.within in
    need_written v c.args.step c.args.on c.index_mut-list.result.now c.as_slice.result.now c.push.new.self false c.self.inside.looks (omega (arith, within, c.self.invariant.0.dependents_size)) c.index_mut-list.ensures.value c.as_slice.ensures c.if-is_first.ensures c.in_ok-push.ensures.ok refl ∙ ap (λ (s : Schedule). with_need s c.args.step c.args.on) c.self.view_is
