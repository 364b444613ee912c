use Rattle.std.proofs.Common.{◌≡◌, true, List, get_or, Some, ap, sym, ◌∙◌, arith}
use Rattle.b2_plan.specs.declared.step.Step.{Step}
use Rattle.b2_virtual.specs.Joining.{is_same}
use Rattle.b2_virtual.proofs.JoinedStepsKeepTheirNumbers.{found_at}
use Rattle.b2_virtual.proofs.builder.find_equal.Goals as goal

pub returns-then-is_same : goal.returns-then-is_same
returns-then-is_same c =
    let steps : List Step = c.args.steps.now in
    let step : Step = c.args.step.now in
    let k = c.loop-place.place in
    let x : Step = c.index-steps-place.result in
    let same : is_same step (get_or steps k x) ≡ true = ap (is_same step) (sym c.index-steps-place.is) ∙ sym c.is_same.ensures ∙ c.if-is_same.true in
    ap Some (omega arith) ∙ sym (found_at steps step k x (omega (arith, c.loop-place-test.true)) c.loop-place.invariant same)
