use Rattle.std.proofs.Common.{◌∙◌, Err, ap}
use Rattle.std.proofs.lemmas.Result.{err_from_is_err_and}
use Rattle.b2_explain.proofs.OutputsAreTaken.{line_unmade, line_failed, line_no_memory, prints_failed, prints_nothing}
use Rattle.b2_explain.proofs.clean.write_removed.Goals as goal

pub returns-in_err-line : goal.returns-in_err-line
returns-in_err-line g c =
    let (y, e, q) = err_from_is_err_and c.from_residual.result c.from_residual.ensures.1 in
    line_unmade c.args.path.now (g.S.Sink.output c.args.out.now) c.from_residual.result (e ∙ ap Err q)

pub returns-in-Err-Failed : goal.returns-in-Err-Failed
returns-in-Err-Failed g c =
    let a = g.S.Sink.output c.args.out.now in
    let b = g.S.Sink.output c.write.new.self in
    line_failed c.args.path.now c.as_bytes.result.now a b (c.as_bytes.ensures.value ∙ c.in_ok-line.ensures) (prints_failed c.as_bytes.result.now a b c.write.result (c.in-Err-Failed.is ∙ ap Err c.in-Err-Failed.field-0-is) c.write.ensures)

pub returns : goal.returns
returns g c =
    let a = g.S.Sink.output c.args.out.now in
    let b = g.S.Sink.output c.write.new.self in
    line_no_memory c.args.path.now a b (prints_nothing c.as_bytes.result.now a b c.write.result (c.in-Err-OutOfMemory.is ∙ ap Err c.in-Err-OutOfMemory.field-0-is) c.write.ensures)
