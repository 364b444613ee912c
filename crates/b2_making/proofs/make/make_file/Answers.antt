use Rattle.std.proofs.lemmas.Result.{err_from_is_err_and}
use Rattle.std.proofs.Common.{◌∙◌, ◌∷◌, [], ap}
use Rattle.b2_making.specs.declared.output.Output.{Output}
use Rattle.b2_making.proofs.ExitsKeepThePromise.{exit, exit_first}
use Rattle.b2_making.proofs.KindsAreMadeAsPromised.{file_refused, file_made}
use Rattle.b2_making.proofs.make.make_file.Goals as goal

pub returns-in_err-ins : goal.returns-in_err-ins
returns-in_err-ins g c =
    let (y, e, q) = err_from_is_err_and c.from_residual.result c.from_residual.ensures.1 in
    exit_first e q

pub returns-in_err-named : goal.returns-in_err-named
returns-in_err-named g c =
    let (y, e, q) = err_from_is_err_and c.from_residual-in_err-named.result c.from_residual-in_err-named.ensures.1 in
    exit_first e q

pub returns-in_err-texts : goal.returns-in_err-texts
returns-in_err-texts g c =
    let (y, e, q) = err_from_is_err_and c.from_residual-in_err-texts.result c.from_residual-in_err-texts.ensures.1 in
    exit_first e q

pub returns-in_err-entries : goal.returns-in_err-entries
returns-in_err-entries g c =
    let (y, e, q) = err_from_is_err_and c.from_residual-in_err-entries.result c.from_residual-in_err-entries.ensures.1 in
    exit e q
    (file_refused g.V.Evaluate.answers g.V.Evaluate.kept g.V.Evaluate.faults g.V.Evaluate.is_host_fault g.V.Evaluate.is_out_of_memory g.V.Evaluate.CanFault c.args.setting.now c.args.site.now c.in_ok-ins.ins c.as_slice-outs.result.now c.in_err-entries.field-0.0 c.args.evaluator.now c.run.new.evaluator c.args.builder.now c.run.new.builder c.in_ok-ins.ensures (c.as_slice-outs.ensures ∙ ap (λ (o : Output). o ∷ []) c.in_ok-named.ensures) c.in_err-entries.ensures)

pub returns : goal.returns
returns g c =
    file_made g.V.Evaluate.answers g.V.Evaluate.kept g.V.Evaluate.faults g.V.Evaluate.is_host_fault g.V.Evaluate.is_out_of_memory g.V.Evaluate.CanFault c.args.setting.now c.args.site.now c.in_ok-ins.ins c.as_slice-outs.result.now c.in_ok-entries.entries c.only.result c.args.evaluator.now c.run.new.evaluator c.args.builder.now c.run.new.builder c.in_ok-ins.ensures (c.as_slice-outs.ensures ∙ ap (λ (o : Output). o ∷ []) c.in_ok-named.ensures) c.only.ensures c.in_ok-entries.ensures
