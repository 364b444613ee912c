use Rattle.std.proofs.lemmas.Result.{err_from_is_err_and}
use Rattle.std.proofs.Common.{◌∙◌}
use Rattle.b2_making.proofs.ExitsKeepThePromise.{exit, exit_first}
use Rattle.b2_making.proofs.KindsAreMadeAsPromised.{objects_refused, objects_made}
use Rattle.b2_making.proofs.make.make_objects.Goals as goal

pub returns-in_err-sources : goal.returns-in_err-sources
returns-in_err-sources g c =
    let (y, e, q) = err_from_is_err_and c.from_residual.result c.from_residual.ensures.1 in
    exit_first e q

pub returns-in_err-texts : goal.returns-in_err-texts
returns-in_err-texts g c =
    let (y, e, q) = err_from_is_err_and c.from_residual-in_err-texts.result c.from_residual-in_err-texts.ensures.1 in
    exit_first e q

pub returns-in_err-made : goal.returns-in_err-made
returns-in_err-made g c =
    let (y, e, q) = err_from_is_err_and c.from_residual-in_err-made.result c.from_residual-in_err-made.ensures.1 in
    exit e q
    (objects_refused g.V.Evaluate.answers g.V.Evaluate.kept g.V.Evaluate.faults g.V.Evaluate.is_host_fault g.V.Evaluate.is_out_of_memory g.V.Evaluate.CanFault c.args.setting.now c.args.site.now c.as_slice-entries.result.now c.in_err-made.field-0.0 c.args.evaluator.now c.all_objects.new.evaluator c.args.builder.now c.all_objects.new.builder
    (c.as_slice-entries.ensures ∙ c.in_ok-sources.ensures) c.in_err-made.ensures)

pub returns : goal.returns
returns g c =
    objects_made g.V.Evaluate.answers g.V.Evaluate.kept g.V.Evaluate.faults g.V.Evaluate.is_host_fault g.V.Evaluate.is_out_of_memory g.V.Evaluate.CanFault c.args.setting.now c.args.site.now c.as_slice-entries.result.now c.in_ok-made.made c.only.result c.args.evaluator.now c.all_objects.new.evaluator c.args.builder.now c.all_objects.new.builder
    (c.as_slice-entries.ensures ∙ c.in_ok-sources.ensures) c.only.ensures c.in_ok-made.ensures
