use Rattle.std.proofs.lemmas.Result.{err_from_is_err_and}
use Rattle.std.proofs.Common.{◌∙◌, ◌++◌, ap}
use Rattle.b2_making.proofs.ExitsKeepThePromise.{exit, exit_first, exit_after}
use Rattle.b2_making.proofs.KindsAreMadeAsPromised.{links_refused, links_then}
use Rattle.b2_making.proofs.make.link.Goals as goal

pub returns-in_err-sources : goal.returns-in_err-sources
returns-in_err-sources g c =
    let (y, e, q) = err_from_is_err_and c.from_residual.result c.from_residual.ensures.1 in
    exit_first e q

pub returns-in_err-objects : goal.returns-in_err-objects
returns-in_err-objects g c =
    let (y, e, q) = err_from_is_err_and c.from_residual-in_err-objects.result c.from_residual-in_err-objects.ensures.1 in
    exit e q
    (links_refused g.V.Evaluate.answers g.V.Evaluate.kept g.V.Evaluate.faults g.V.Evaluate.is_host_fault g.V.Evaluate.is_out_of_memory g.V.Evaluate.CanFault c.args.setting.now c.args.site.now c.args.named.now c.args.with_libraries c.as_slice-entries.result.now c.in_err-objects.field-0.0 c.args.evaluator.now c.all_objects.new.evaluator c.args.builder.now c.all_objects.new.builder (c.as_slice-entries.ensures ∙ c.in_ok-sources.ensures) c.in_err-objects.ensures)

pub returns-in_err-libraries : goal.returns-in_err-libraries
returns-in_err-libraries g c =
    let (y, e, q) = err_from_is_err_and c.from_residual-in_err-libraries.result c.from_residual-in_err-libraries.ensures.1 in
    exit_after e q c.in_ok-objects.ensures

pub returns-in_err-ins : goal.returns-in_err-ins
returns-in_err-ins g c =
    let (y, e, q) = err_from_is_err_and c.from_residual-in_err-ins.result c.from_residual-in_err-ins.ensures.1 in
    exit_after e q c.in_ok-objects.ensures

pub returns : goal.returns
returns g c =
    links_then g.V.Evaluate.answers g.V.Evaluate.kept g.V.Evaluate.faults g.V.Evaluate.is_host_fault g.V.Evaluate.is_out_of_memory g.V.Evaluate.CanFault c.args.setting.now c.args.site.now c.args.named.now c.args.with_libraries c.as_slice-entries.result.now c.in_ok-objects.objects c.in_ok-ins.ins c.args.evaluator.now c.all_objects.new.evaluator c.linked.new.evaluator c.args.builder.now c.all_objects.new.builder c.linked.new.builder c.linked.result
    (c.as_slice-entries.ensures ∙ c.in_ok-sources.ensures) (c.in_ok-ins.ensures ∙ ap (λ ls. c.in_ok-objects.objects ++ ls) c.in_ok-libraries.ensures) c.in_ok-objects.ensures c.linked.ensures
