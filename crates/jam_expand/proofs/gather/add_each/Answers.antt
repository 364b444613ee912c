use Rattle.std.proofs.Common.{◌∙◌, ap}
use Rattle.std.proofs.lemmas.Result.{err_from_is_err_and}
use Rattle.jam_expand.specs.Limits.{within}
use Rattle.jam_expand.proofs.ListsGrowTextByText.{each_longer, each_fault}
use Rattle.jam_expand.proofs.gather.add_each.Goals as goal

pub returns-in_err-push : goal.returns-in_err-push
returns-in_err-push c =
    let p = err_from_is_err_and c.from_residual-in_err-push.result c.from_residual-in_err-push.ensures.1 in
    rw (p.1, p.2)
    (each_fault c.args.gathered.now c.args.modifiers.now c.args.texts.now c.loop-text.text-index c.text-item.result c.loop-text.gathered c.in_ok-changed.field-0 c.in_err-push.field-0.0
    c.loop-text-test.true c.text-item.is c.in_ok-changed.ensures c.loop-text.invariant.so_far c.in_err-push.ensures.given)

pub loop-text-preserved : goal.loop-text-preserved
loop-text-preserved c =
    record {
      so_far = c.in_ok-push.ensures.ok ∙ each_longer c.args.gathered.now c.args.modifiers.now c.args.texts.now c.loop-text.text-index c.text-item.result c.loop-text.gathered c.in_ok-changed.field-0
          c.loop-text-test.true c.text-item.is c.in_ok-changed.ensures c.loop-text.invariant.so_far;
      small = ap within c.in_ok-push.ensures.ok ∙ c.in_ok-push.ensures.given;
    }
