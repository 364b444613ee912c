use Rattle.std.proofs.lemmas.Result.{err_from_is_err_and}
use Rattle.std.proofs.Common.{◌∙◌}
use Rattle.b2_making.proofs.PromisesCompose.{grows_none}
use Rattle.b2_making.proofs.CopiesAreMadeInTurn.{copies_refused, copies_made}
use Rattle.b2_making.proofs.ExitsKeepThePromise.{exit_alone, exit_alone_memory}
use Rattle.b2_making.proofs.copies.make_copies.Goals as goal

pub returns-in_err-entries : goal.returns-in_err-entries
returns-in_err-entries g c =
    let (y, e, q) = err_from_is_err_and c.from_residual.result c.from_residual.ensures.1 in
    record { copies = exit_alone_memory e q; grows = grows_none c.args.setting.now.roots.now c.args.builder.now }

pub returns-in_err-made : goal.returns-in_err-made
returns-in_err-made g c =
    let (y, e, q) = err_from_is_err_and c.from_residual-in_err-made.result c.from_residual-in_err-made.ensures.1 in
    record { copies = exit_alone e q (copies_refused c.args.setting.now c.args.site.now c.as_slice-list.result.now c.in_err-made.field-0.0 c.args.builder.now c.copy_all.new.builder (c.as_slice-list.ensures ∙ c.in_ok-entries.ensures) c.in_err-made.ensures.copies); grows = c.in_err-made.ensures.grows }

pub returns : goal.returns
returns g c =
    record { copies = copies_made c.args.setting.now c.args.site.now c.as_slice-list.result.now c.in_ok-made.made c.only.result c.args.builder.now c.copy_all.new.builder (c.as_slice-list.ensures ∙ c.in_ok-entries.ensures) c.only.ensures c.in_ok-made.ensures.copies; grows = c.in_ok-made.ensures.grows }
