use Rattle.std.proofs.Common.{◌≡◌, ◌≤◌, ◌+◌, ◌∙◌, suc, inl, inr, sym, subst, arith}
use Rattle.std.proofs.lemmas.Result.{err_from_is_err_and}
use Rattle.b2_props.specs.Sets.{IsSet}
use Rattle.b2_refine.proofs.LastRoundsDecide.{first_round, second_round, later_round, round_counted, round_counted_twice, two_here, round_within, asked_later}
use Rattle.b2_refine.proofs.evaluate.last_rounds.Goals as goal

pub loop-init : goal.loop-init
loop-init g c =
    let one = c.in_ok-second.ensures in
    record {
      set = subst (IsSet c.args.registry.now) (sym c.requires.first) c.requires.set;
      next_set = one.set;
      rules = one.leaves.same_rules;
      answer = one.leaves.same_answer;
      kept = one.leaves.same_kept;
      faults = one.leaves.counted;
      first_is = λ told e. first_round told c.args.registry.now c.args.request.now c.args.required.now c.args.base.now c.args.first c.requires.base c.requires.first;
      second_is = λ told e. second_round told c.args.registry.now c.args.request.now c.args.required.now c.args.base.now c.args.first c.in_ok-second.second c.requires.base c.requires.first (one.told told e);
    }

pub loop-preserved : goal.loop-preserved
loop-preserved g c =
    let before = c.loop.invariant in
    let one = c.in_ok-third.ensures in
    record {
      set = before.next_set;
      next_set = one.set;
      rules = one.leaves.same_rules ∙ before.rules;
      answer = one.leaves.same_answer ∙ before.answer;
      kept = one.leaves.same_kept ∙ before.kept;
      faults = one.leaves.counted ∙ before.faults;
      first_is = λ told e. round_counted told c.args.registry.now c.args.request.now c.args.required.now c.loop.counter c.loop.second (before.second_is told e);
      second_is = λ told e.
          round_counted_twice told c.args.registry.now c.args.request.now c.args.required.now c.loop.counter c.in_ok-third.third
          (later_round told c.args.registry.now c.args.request.now c.args.required.now c.args.base.now c.loop.second c.in_ok-third.third (suc c.loop.counter) c.requires.base (before.second_is told e) (one.told told (before.answer ∙ e)));
    }

pub returns-then-equals-clause-told : goal.returns-then-equals-clause-told
returns-then-equals-clause-told g c = λ told e.
    let before = c.loop.invariant in
    let within : c.loop.counter ≤ c.count_others-end.result + 1 = omega (arith, c.loop-test.true) in
    two_here told c.args.registry.now c.args.request.now c.args.required.now c.loop.counter c.count_others-end.result c.loop.first c.loop.second c.count_others-end.ensures within (before.first_is told e) (before.second_is told e) (inl (c.equals.ensures.0 c.if-equals.true))

pub returns-clause-told : goal.returns-clause-told
returns-clause-told g c = λ told e.
    let before = c.loop.invariant in
    let within : c.loop.counter ≤ c.count_others-end.result + 1 = omega arith in
    let last : c.loop.counter ≡ c.count_others-end.result + 1 = omega arith in
    two_here told c.args.registry.now c.args.request.now c.args.required.now c.loop.counter c.count_others-end.result c.loop.first c.loop.second c.count_others-end.ensures within (before.first_is told e) (before.second_is told e) (inr last)

pub returns-in_err-third-clause-asked : goal.returns-in_err-third-clause-asked
returns-in_err-third-clause-asked g c = λ told e.
    let before = c.loop.invariant in
    let p = err_from_is_err_and c.from_residual-in_err-third.result c.from_residual-in_err-third.ensures.1 in
    rw (p.1, p.2)
    (asked_later told c.args.registry.now c.args.request.now c.args.required.now g.A.Ask.is_host_fault g.A.Ask.is_out_of_memory c.args.base.now c.loop.second (suc c.loop.counter) c.in_err-third.field-0.0 c.requires.base
    (round_within told c.args.registry.now c.args.request.now c.args.required.now c.loop.counter c.count_others-end.result c.count_others-end.ensures (omega (arith, c.loop-test.true)))
    (before.second_is told e) (c.in_err-third.ensures.told told (before.answer ∙ e)))

pub returns-in_err-second-clause-asked : goal.returns-in_err-second-clause-asked
returns-in_err-second-clause-asked g c = λ told e.
    let p = err_from_is_err_and c.from_residual.result c.from_residual.ensures.1 in
    rw (p.1, p.2)
    (asked_later told c.args.registry.now c.args.request.now c.args.required.now g.A.Ask.is_host_fault g.A.Ask.is_out_of_memory c.args.base.now c.args.first 0 c.in_err-second.field-0.0 c.requires.base (omega arith)
    (first_round told c.args.registry.now c.args.request.now c.args.required.now c.args.base.now c.args.first c.requires.base c.requires.first) (c.in_err-second.ensures.told told e))
