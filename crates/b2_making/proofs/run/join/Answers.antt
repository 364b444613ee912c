use Rattle.std.proofs.lemmas.Result.{err_from_is_err_and}
use Rattle.std.proofs.Common.{Err, sym, subst}
use Rattle.b2_making.specs.MakingParts.{IsJoined}
use Rattle.b2_making.proofs.OutputsLieInRoots.{join_ok, join_err}
use Rattle.b2_making.proofs.run.join.Goals as goal

pub returns : goal.returns
returns g c =
    join_ok c.args.step c.args.builder.now c.add.new.self c.in_ok-add.ensures.joined c.in_ok-add.ensures.fits c.in_ok-add.ensures.few

pub returns-in_err-add : goal.returns-in_err-add
returns-in_err-add g c =
    let (y, e, q) = err_from_is_err_and c.from_residual.result c.from_residual.ensures.1 in
    subst (λ r. IsJoined c.args.step c.args.builder.now c.add.new.self r) (sym e)
    (subst (λ z. IsJoined c.args.step c.args.builder.now c.add.new.self (Err z)) (sym q)
    (join_err c.args.step c.args.builder.now c.add.new.self c.in_err-add.field-0.0 c.in_err-add.ensures.new c.in_err-add.ensures.clash c.in_err-add.ensures.too_many c.in_err-add.ensures.of_step c.in_err-add.ensures.err))
