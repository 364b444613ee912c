use Rattle.std.proofs.Common.{◌∙◌, ap}
use Rattle.std.proofs.lemmas.Result.{err_from_is_err_and}
use Rattle.jam_expand.specs.Limits.{within}
use Rattle.jam_values.proofs.ListsGrowByOne.{one_joined, one_fault}
use Rattle.jam_values.proofs.joining.join.Goals as goal

pub returns-in_err-push-clause-given : goal.returns-in_err-push-clause-given
returns-in_err-push-clause-given c =
    let p = err_from_is_err_and c.from_residual-in_err-push.result c.from_residual-in_err-push.ensures.1 in
    rw (p.1, p.2)
    (one_fault c.args.gathered.now c.args.texts.now c.loop-text.gathered c.loop-text.text-index c.text-item.result c.in_ok-copy.field-0 c.in_err-push.field-0.0
    c.loop-text-test.true c.text-item.is c.in_ok-copy.ensures c.loop-text.invariant.so_far c.in_err-push.ensures.given)

pub loop-text-preserved : goal.loop-text-preserved
loop-text-preserved c =
    record {
      so_far = c.in_ok-push.ensures.ok ∙ one_joined c.args.gathered.now c.args.texts.now c.loop-text.gathered c.loop-text.text-index c.text-item.result c.in_ok-copy.field-0
          c.loop-text-test.true c.text-item.is c.in_ok-copy.ensures c.loop-text.invariant.so_far;
      small = ap within c.in_ok-push.ensures.ok ∙ c.in_ok-push.ensures.given;
    }
