use Rattle.std.proofs.Common.{◌≡◌, ◌++◌, ap, arith, length, map, take, subst, ◌∙◌}
use Rattle.std.proofs.lemmas.List.{length-append}
use Rattle.std.proofs.lemmas.Result.{err_from_is_err_and}
use Rattle.jam_expand.specs.Limits.{IsWithin}
use Rattle.jam_expand.specs.Products.{cross}
use Rattle.jam_expand.proofs.ProductLengthsAddUp.{cross_sum_more, cross_sum_fault}
use Rattle.jam_expand.proofs.product.sum_of_cross.Goals as goal

pub returns-in_err-sum : goal.returns-in_err-sum
returns-in_err-sum c = λ first e.
    let p = err_from_is_err_and c.from_residual.result c.from_residual.ensures.1 in
    let len : length (first ++ c.text-item.result) ≡ c.in-Some.len = length-append first c.text-item.result ∙ omega (arith, c.in-Some.ensures.1, e, ap length c.as_str.ensures.value) in
    rw (p.1, p.2)
    (cross_sum_fault first c.args.texts.now c.args.others.now c.loop-text.text-index c.text-item.result c.in_err-sum.field-0.0 c.loop-text-test.true c.text-item.is
    (c.in_err-sum.ensures.sum (map (λ other. first ++ other) (cross (take c.loop-text.text-index c.args.texts.now) c.args.others.now)) (first ++ c.text-item.result) (c.loop-text.invariant.so_far first e) len))

pub loop-text-preserved : goal.loop-text-preserved
loop-text-preserved c = record {
  so_far = λ first e.
      let len : length (first ++ c.text-item.result) ≡ c.in-Some.len = length-append first c.text-item.result ∙ omega (arith, c.in-Some.ensures.1, e, ap length c.as_str.ensures.value) in
      subst (λ texts. IsWithin texts c.in_ok-sum.sum) (cross_sum_more first c.args.texts.now c.args.others.now c.loop-text.text-index c.text-item.result c.loop-text-test.true c.text-item.is)
      (c.in_ok-sum.ensures.sum (map (λ other. first ++ other) (cross (take c.loop-text.text-index c.args.texts.now) c.args.others.now)) (first ++ c.text-item.result) (c.loop-text.invariant.so_far first e) len);
  small = c.in_ok-sum.ensures.small;
}
