use Rattle.std.proofs.Common.{◌≡◌, [], refl}
use Rattle.std.proofs.lemmas.Result.{err_from_is_err_and}
use Rattle.jam_expand.proofs.PlainWordsExpandToThemselves.{nothing_within, same_within, same_fault}
use Rattle.jam_expand.proofs.product.lone.Goals as goal

pub returns-in_err-_sum : goal.returns-in_err-_sum
returns-in_err-_sum c =
    let p = err_from_is_err_and c.from_residual.result c.from_residual.ensures.1 in
    rw (p.1, p.2) (same_fault c.args.list c.in_err-_sum.field-0.0 (rw c.as_slice.ensures at (c.in_err-_sum.ensures.sum [] [] nothing_within refl)))

pub returns : goal.returns
returns c = same_within c.args.list c.in_ok-_sum._sum (rw c.as_slice.ensures at (c.in_ok-_sum.ensures.sum [] [] nothing_within refl))
