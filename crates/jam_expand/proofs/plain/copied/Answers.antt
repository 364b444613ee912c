use Rattle.std.proofs.Common.{[], refl}
use Rattle.std.proofs.lemmas.Result.{err_from_is_err_and}
use Rattle.jam_expand.proofs.PlainWordsExpandToThemselves.{nothing_within, same_within, same_fault}
use Rattle.jam_expand.proofs.plain.copied.Goals as goal

pub returns-in_err-_sum : goal.returns-in_err-_sum
returns-in_err-_sum c =
    let p = err_from_is_err_and c.from_residual.result c.from_residual.ensures.1 in
    rw (p.1, p.2) (same_fault c.args.texts.now c.in_err-_sum.field-0.0 (c.in_err-_sum.ensures.sum [] [] nothing_within refl))

pub returns : goal.returns
returns c = rw c.in_ok-copy_texts.ensures (same_within c.args.texts.now c.in_ok-_sum._sum (c.in_ok-_sum.ensures.sum [] [] nothing_within refl))
