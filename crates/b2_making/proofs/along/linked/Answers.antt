use Rattle.std.proofs.Common.{◌∙◌, ◌∷◌, [], List, ℕ, Ok, Err, refl, ap}
use Rattle.std.specs.Prelude.{codes}
use Rattle.std.specs.List.{find}
use Rattle.std.specs.Option.{option_map_or}
use Rattle.b2_virtual.specs.declared.entry.Entry.{Entry}
use Rattle.b2_virtual.specs.Supplies.{is_of}
use Rattle.std.proofs.lemmas.Result.{err_from_is_err_and}
use Rattle.b2_making.proofs.ChainGeneratorsGiveOutputs.{chain_read}
use Rattle.b2_making.proofs.ExitsKeepThePromise.{exit, exit_after}
use Rattle.b2_making.proofs.KindsAreMadeAsPromised.{link_unchained, link_refused, link_made}
use Rattle.b2_making.proofs.along.linked.Goals as goal

pub returns-in_err-ids : goal.returns-in_err-ids
returns-in_err-ids g c =
    let (y, e, q) = err_from_is_err_and c.from_residual.result c.from_residual.ensures.1 in
    exit e q (link_unchained g.V.Evaluate.answers g.V.Evaluate.kept g.V.Evaluate.faults g.V.Evaluate.is_host_fault
    g.V.Evaluate.is_out_of_memory g.V.Evaluate.CanFault c.args.setting.now c.args.site.now c.args.named.now
    c.args.ins c.in_err-ids.field-0.0 c.args.evaluator.now c.args.builder.now (chain_read c.args.setting.now
    c.args.site.now (codes "OBJ") c.args.named.now.file_type (codes "OBJ") c.as_str.result.now c.args.builder.now
    (Err c.in_err-ids.field-0.0) refl c.as_str.ensures.value (c.in_err-ids.ensures.ids c.args.builder.now)))

pub returns-in_err-made : goal.returns-in_err-made
returns-in_err-made g c =
    let (y, e, q) = err_from_is_err_and c.from_residual-in_err-made.result c.from_residual-in_err-made.ensures.1 in
    exit e q
    (link_refused g.V.Evaluate.answers g.V.Evaluate.kept g.V.Evaluate.faults g.V.Evaluate.is_host_fault
    g.V.Evaluate.is_out_of_memory g.V.Evaluate.CanFault c.args.setting.now c.args.site.now c.args.named.now
    c.args.ins c.in_ok-ids.ids c.as_slice-list.result.now c.in_err-made.field-0.0 c.args.evaluator.now
    c.along.new.evaluator c.args.builder.now c.along.new.builder c.as_slice-list.ensures (chain_read
    c.args.setting.now c.args.site.now (codes "OBJ") c.args.named.now.file_type (codes "OBJ") c.as_str.result.now
    c.args.builder.now (Ok c.in_ok-ids.ids) refl c.as_str.ensures.value (c.in_ok-ids.ensures.ids
    c.args.builder.now)) c.in_err-made.ensures)

pub returns-in_err-entries : goal.returns-in_err-entries
returns-in_err-entries g c =
    let (y, e, q) = err_from_is_err_and c.from_residual-in_err-entries.result c.from_residual-in_err-entries.ensures.1 in
    exit_after e q c.in_ok-made.ensures

pub returns : goal.returns
returns g c =
    link_made g.V.Evaluate.answers g.V.Evaluate.kept g.V.Evaluate.faults g.V.Evaluate.is_host_fault
    g.V.Evaluate.is_out_of_memory g.V.Evaluate.CanFault c.args.setting.now c.args.site.now c.args.named.now
    c.args.ins c.in_ok-ids.ids c.as_slice-list.result.now c.in_ok-made.made c.in_ok-entries.entries
    c.args.evaluator.now c.along.new.evaluator c.args.builder.now c.along.new.builder c.as_slice-list.ensures
    (c.in_ok-entries.ensures ∙ ap (λ (t : List ℕ). option_map_or (λ (e : Entry). e ∷ []) (find (is_of t)
    c.as_slice-found.result.now) []) c.as_str-2.ensures.value ∙ ap (λ (es : List Entry). option_map_or (λ (e :
    Entry). e ∷ []) (find (is_of c.args.named.now.file_type) es) []) c.as_slice-found.ensures) (chain_read
    c.args.setting.now c.args.site.now (codes "OBJ") c.args.named.now.file_type (codes "OBJ") c.as_str.result.now
    c.args.builder.now (Ok c.in_ok-ids.ids) refl c.as_str.ensures.value (c.in_ok-ids.ensures.ids
    c.args.builder.now)) c.in_ok-made.ensures
