use Rattle.std.proofs.Common.{Ok, Err, refl}
use Rattle.std.specs.Prelude.{codes}
use Rattle.std.proofs.lemmas.Result.{err_from_is_err_and}
use Rattle.b2_making.proofs.ChainGeneratorsGiveOutputs.{chain_read}
use Rattle.b2_making.proofs.ExitsKeepThePromise.{exit, exit_first}
use Rattle.b2_making.proofs.KindsAreMadeAsPromised.{source_unchained, source_refused, source_made}
use Rattle.b2_making.proofs.along.to_objects.Goals as goal

pub returns-in_err-ids : goal.returns-in_err-ids
returns-in_err-ids g c =
    let (y, e, q) = err_from_is_err_and c.from_residual.result c.from_residual.ensures.1 in
    exit e q (source_unchained g.V.Evaluate.answers g.V.Evaluate.kept g.V.Evaluate.faults g.V.Evaluate.is_host_fault
    g.V.Evaluate.is_out_of_memory g.V.Evaluate.CanFault c.args.setting.now c.args.site.now c.args.entry.now
    c.in_err-ids.field-0.0 c.args.evaluator.now c.args.builder.now (chain_read c.args.setting.now c.args.site.now
    c.args.entry.now.file_type (codes "OBJ") c.as_str.result.now (codes "OBJ") c.args.builder.now (Err
    c.in_err-ids.field-0.0) c.as_str.ensures.value refl (c.in_err-ids.ensures.ids c.args.builder.now)))

pub returns-in_err-ins : goal.returns-in_err-ins
returns-in_err-ins g c =
    let (y, e, q) = err_from_is_err_and c.from_residual-in_err-ins.result c.from_residual-in_err-ins.ensures.1 in
    exit_first e q

pub returns-in_err-made : goal.returns-in_err-made
returns-in_err-made g c =
    let (y, e, q) = err_from_is_err_and c.from_residual-in_err-made.result c.from_residual-in_err-made.ensures.1 in
    exit e q
    (source_refused g.V.Evaluate.answers g.V.Evaluate.kept g.V.Evaluate.faults g.V.Evaluate.is_host_fault
    g.V.Evaluate.is_out_of_memory g.V.Evaluate.CanFault c.args.setting.now c.args.site.now c.args.entry.now
    c.in_ok-ids.ids c.as_slice-list.result.now c.in_ok-ins.ins c.in_err-made.field-0.0 c.args.evaluator.now
    c.along.new.evaluator c.args.builder.now c.along.new.builder c.as_slice-list.ensures c.in_ok-ins.ensures
    (chain_read c.args.setting.now c.args.site.now c.args.entry.now.file_type (codes "OBJ") c.as_str.result.now
    (codes "OBJ") c.args.builder.now (Ok c.in_ok-ids.ids) c.as_str.ensures.value refl (c.in_ok-ids.ensures.ids
    c.args.builder.now)) c.in_err-made.ensures)

pub returns : goal.returns
returns g c =
    source_made g.V.Evaluate.answers g.V.Evaluate.kept g.V.Evaluate.faults g.V.Evaluate.is_host_fault
    g.V.Evaluate.is_out_of_memory g.V.Evaluate.CanFault c.args.setting.now c.args.site.now c.args.entry.now
    c.in_ok-ids.ids c.as_slice-list.result.now c.in_ok-ins.ins c.in_ok-made.made c.only_objects.result
    c.args.evaluator.now c.along.new.evaluator c.args.builder.now c.along.new.builder c.as_slice-list.ensures
    c.in_ok-ins.ensures c.only_objects.ensures (chain_read c.args.setting.now c.args.site.now
    c.args.entry.now.file_type (codes "OBJ") c.as_str.result.now (codes "OBJ") c.args.builder.now (Ok
    c.in_ok-ids.ids) c.as_str.ensures.value refl (c.in_ok-ids.ensures.ids c.args.builder.now))
    c.in_ok-made.ensures
