use Rattle.std.proofs.lemmas.Result.{err_from_is_err_and}
use Rattle.b2_making.proofs.ExitsKeepThePromise.{exit_alone, exit_alone_memory}
use Rattle.b2_making.proofs.OutputsLieInRoots.{place_ok, place_err}
use Rattle.b2_making.proofs.place.place.Goals as goal

pub returns-in_err-path : goal.returns-in_err-path
returns-in_err-path g c =
    let (y, e, q) = err_from_is_err_and c.from_residual.result c.from_residual.ensures.1 in
    λ before. exit_alone e q (place_err c.args.setting.now c.args.site.now c.args.output.now c.in_err-path.field-0.0 before c.in_err-path.ensures)

pub returns-in_err-file_type : goal.returns-in_err-file_type
returns-in_err-file_type g c =
    let (y, e, q) = err_from_is_err_and c.from_residual-in_err-file_type.result c.from_residual-in_err-file_type.ensures.1 in
    λ before. exit_alone_memory e q

pub returns-in_err-tail : goal.returns-in_err-tail
returns-in_err-tail g c =
    let (y, e, q) = err_from_is_err_and c.from_residual-in_err-tail.result c.from_residual-in_err-tail.ensures.1 in
    λ before. exit_alone_memory e q

pub returns : goal.returns
returns g c =
    λ before. place_ok c.args.setting.now c.args.site.now c.args.output.now c.in_ok-path.path c.in_ok-file_type.file_type c.in_ok-tail.tail before c.in_ok-path.ensures c.in_ok-file_type.ensures c.in_ok-tail.ensures
