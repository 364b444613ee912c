use Rattle.std.proofs.Common.{◌≢◌, length, Err, sym, ap, subst, arith}
use Rattle.std.proofs.lemmas.Result.{err_from_is_err_and}
use Rattle.jam_engine.specs.Acts.{acts_at}
use Rattle.jam_engine.specs.Steps.{most_steps, is_full}
use Rattle.jam_engine.specs.Stepping.{IsJoined}
use Rattle.jam_engine.proofs.StepsJoin.{not_joined, one_joined}
use Rattle.jam_engine.proofs.steps.add_step.Goals as goal

pub returns-then-steps-eq65536-clause-joins : goal.returns-then-steps-eq65536-clause-joins
returns-then-steps-eq65536-clause-joins c stands h =
    let count = ap length c.steps.ensures.steps in
    let full = c.if-steps-eq65536.true in
    is_full (omega (arith, count, full))

pub returns-in_err-step-clause-joins : goal.returns-in_err-step-clause-joins
returns-in_err-step-clause-joins c stands h =
    let g = c.args.graph.now in
    let set = acts_at c.args.acts.now c.args.set.now in
    let steps = c.args.builder.now in
    let count = ap length c.steps.ensures.steps in
    let other = c.if-steps-eq65536.false in
    let few : length steps ≢ most_steps = λ full. omega (arith, count, other, full) in
    let (y, e, q) = err_from_is_err_and c.from_residual.result c.from_residual.ensures.1 in
    subst (λ r. IsJoined g stands steps set steps r) (sym e)
    (subst (λ z. IsJoined g stands steps set steps (Err z)) (sym q) (not_joined g stands steps steps set few c.in_err-step.field-0.0 (c.in_err-step.ensures.step stands h)))

pub returns-clause-joins : goal.returns-clause-joins
returns-clause-joins c stands h =
    let g = c.args.graph.now in
    let set = acts_at c.args.acts.now c.args.set.now in
    let steps = c.args.builder.now in
    let count = ap length c.steps.ensures.steps in
    let other = c.if-steps-eq65536.false in
    let few : length steps ≢ most_steps = λ full. omega (arith, count, other, full) in
    one_joined g stands steps c.join.new.builder set few c.in_ok-step.step c.join.result (c.in_ok-step.ensures.step stands h) c.join.ensures.joins
