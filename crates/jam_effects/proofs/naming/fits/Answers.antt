use Rattle.std.proofs.Common.{◌++◌}
use Rattle.std.proofs.lemmas.Result.{err_from_is_err_and}
use Rattle.jam_expand.proofs.SumTellsIfTooLarge.{sum_small, within_is_ok}
use Rattle.jam_effects.proofs.SumsTellWhatFits.{too_large}
use Rattle.jam_effects.proofs.naming.fits.Goals as goal

pub summed-requires : goal.summed-requires
summed-requires c = sum_small c.args.found.now c.in_ok-sum.sum c.in_ok-sum.ensures

pub returns-in_err-sum : goal.returns-in_err-sum
returns-in_err-sum c =
    let p = err_from_is_err_and c.from_residual.result c.from_residual.ensures.1 in
    rw (p.1, p.2) (too_large c.args.found.now c.args.more.now c.in_err-sum.field-0.0 c.in_err-sum.ensures)

pub returns-in_err-summed : goal.returns-in_err-summed
returns-in_err-summed c =
    let p = err_from_is_err_and c.from_residual-in_err-summed.result c.from_residual-in_err-summed.ensures.1 in
    rw (p.1, p.2) (c.in_err-summed.ensures c.args.found.now c.in_ok-sum.ensures)

pub returns : goal.returns
returns c = within_is_ok (c.args.found.now ++ c.args.more.now) c.in_ok-summed.field-0 (c.in_ok-summed.ensures c.args.found.now c.in_ok-sum.ensures)
