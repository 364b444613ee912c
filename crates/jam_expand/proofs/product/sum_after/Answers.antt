use Rattle.std.proofs.Common.{ap, arith, length}
use Rattle.std.proofs.lemmas.Result.{err_from_is_err_and}
use Rattle.jam_expand.proofs.ProductLengthsAddUp.{sum_text, sum_fault, sum_next_small}
use Rattle.jam_expand.proofs.product.sum_after.Goals as goal

pub returns-in_err-sum-clause-sum : goal.returns-in_err-sum-clause-sum
returns-in_err-sum-clause-sum c = λ texts first w e.
    let p = err_from_is_err_and c.from_residual.result c.from_residual.ensures.1 in
    rw (p.1, p.2) (sum_fault texts first c.args.others.now c.loop-other.other-index c.other-item.result c.loop-other.sum c.in-Some.len c.in_err-sum.field-0.0 c.loop-other-test.true c.other-item.is (c.loop-other.invariant.so_far texts first w e) (omega (arith, c.in-Some.ensures.1, e, ap length c.as_str.ensures.value)) c.in_err-sum.ensures)

pub loop-other-preserved : goal.loop-other-preserved
loop-other-preserved c = record {
  so_far = λ texts first w e. sum_text texts first c.args.others.now c.loop-other.other-index c.other-item.result c.loop-other.sum c.in-Some.len c.in_ok-sum.sum c.loop-other-test.true c.other-item.is (c.loop-other.invariant.so_far texts first w e) (omega (arith, c.in-Some.ensures.1, e, ap length c.as_str.ensures.value)) c.in_ok-sum.ensures;
  small = sum_next_small c.loop-other.sum c.in-Some.len c.in_ok-sum.sum c.in_ok-sum.ensures;
}
