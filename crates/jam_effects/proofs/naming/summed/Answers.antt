use Rattle.std.proofs.Common.{sym, subst}
use Rattle.std.proofs.lemmas.List.{append-nil}
use Rattle.std.proofs.lemmas.Result.{err_from_is_err_and}
use Rattle.jam_expand.specs.Limits.{IsWithin}
use Rattle.jam_effects.proofs.SumsTellWhatFits.{given_small, sum_more, sum_fault}
use Rattle.jam_effects.proofs.naming.summed.Goals as goal

pub loop-text-init : goal.loop-text-init
loop-text-init c = record { small = c.requires; so_far = λ list h. subst (λ l. IsWithin l c.args.sum) (sym (append-nil list)) h }

pub loop-text-preserved : goal.loop-text-preserved
loop-text-preserved c =
    let given = rw c.as_str.ensures.value at c.in_ok-next.ensures in
    record {
      small = given_small _ c.in_ok-next.next given;
      so_far = λ list h. sum_more list c.args.texts.now c.loop-text.text-index c.text-item.result c.loop-text.all c.in_ok-next.next c.loop-text-test.true c.text-item.is (c.loop-text.invariant.so_far list h) given;
    }

pub returns-in_err-next : goal.returns-in_err-next
returns-in_err-next c =
    let p = err_from_is_err_and c.from_residual.result c.from_residual.ensures.1 in
    rw (p.1, p.2)
    (λ list h. sum_fault list c.args.texts.now c.loop-text.text-index c.text-item.result c.loop-text.all c.in_err-next.field-0.0 c.loop-text-test.true c.text-item.is (c.loop-text.invariant.so_far list h) (rw c.as_str.ensures.value at c.in_err-next.ensures))
