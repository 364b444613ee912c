use Rattle.std.proofs.lemmas.Result.{err_from_is_err_and}
use Rattle.std.proofs.Common.{List, ℕ, Ok, Err, subst}
use Rattle.std.specs.Option.{option_copied}
use Rattle.b2_making.specs.MakingParts.{IsCopiedTo}
use Rattle.b2_making.proofs.ExitsKeepThePromise.{exit_alone, exit_alone_memory}
use Rattle.b2_making.proofs.PromisesCompose.{grows_none}
use Rattle.b2_making.proofs.CopiesAreMadeInTurn.{copy_outside, copy_refused, copy_done, copy_grows}
use Rattle.b2_making.proofs.copies.copy_one.Goals as goal

pub returns-in_err-path : goal.returns-in_err-path
returns-in_err-path g c =
    let (y, e, q) = err_from_is_err_and c.from_residual.result c.from_residual.ensures.1 in
    record {
      copies = exit_alone e q (copy_outside c.args.setting.now c.args.site.now c.args.entry.now (option_copied c.args.location) c.in_err-path.field-0.0 c.args.builder.now (subst (λ (n : List ℕ). IsCopiedTo c.args.setting.now c.args.site.now (option_copied c.args.location) n (Err c.in_err-path.field-0.0)) c.file_name.ensures.name c.in_err-path.ensures));
      grows = grows_none c.args.setting.now.roots.now c.args.builder.now;
    }

pub returns-in_err-step : goal.returns-in_err-step
returns-in_err-step g c =
    let (y, e, q) = err_from_is_err_and c.from_residual-in_err-step.result c.from_residual-in_err-step.ensures.1 in
    record { copies = exit_alone_memory e q; grows = grows_none c.args.setting.now.roots.now c.args.builder.now }

pub returns-in_err-made : goal.returns-in_err-made
returns-in_err-made g c =
    let (y, e, q) = err_from_is_err_and c.from_residual-in_err-made.result c.from_residual-in_err-made.ensures.1 in
    record { copies = exit_alone_memory e q; grows = grows_none c.args.setting.now.roots.now c.args.builder.now }

pub returns-in_err-join : goal.returns-in_err-join
returns-in_err-join g c =
    let (y, e, q) = err_from_is_err_and c.from_residual-in_err-join.result c.from_residual-in_err-join.ensures.1 in
    record {
      copies = exit_alone e q (copy_refused c.args.setting.now c.args.site.now c.args.entry.now (option_copied c.args.location) c.in_ok-path.path c.in_ok-step.step c.in_err-join.field-0.0 c.args.builder.now c.join.new.builder (subst (λ (n : List ℕ). IsCopiedTo c.args.setting.now c.args.site.now (option_copied c.args.location) n (Ok c.in_ok-path.path)) c.file_name.ensures.name c.in_ok-path.ensures) c.in_ok-step.ensures c.in_err-join.ensures);
      grows = copy_grows c.args.setting.now c.args.site.now c.args.entry.now (option_copied c.args.location) c.in_ok-path.path c.in_ok-step.step c.args.builder.now c.join.new.builder (Err c.in_err-join.field-0.0) (subst (λ (n : List ℕ). IsCopiedTo c.args.setting.now c.args.site.now (option_copied c.args.location) n (Ok c.in_ok-path.path)) c.file_name.ensures.name c.in_ok-path.ensures) c.in_ok-step.ensures c.in_err-join.ensures;
    }

pub returns : goal.returns
returns g c =
    record {
      copies = copy_done c.args.setting.now c.args.site.now c.args.entry.now (option_copied c.args.location) c.in_ok-path.path c.in_ok-step.step c.in_ok-made.made c.args.builder.now c.join.new.builder (subst (λ (n : List ℕ). IsCopiedTo c.args.setting.now c.args.site.now (option_copied c.args.location) n (Ok c.in_ok-path.path)) c.file_name.ensures.name c.in_ok-path.ensures) c.in_ok-step.ensures c.in_ok-made.ensures c.in_ok-join.ensures;
      grows = copy_grows c.args.setting.now c.args.site.now c.args.entry.now (option_copied c.args.location) c.in_ok-path.path c.in_ok-step.step c.args.builder.now c.join.new.builder (Ok tt) (subst (λ (n : List ℕ). IsCopiedTo c.args.setting.now c.args.site.now (option_copied c.args.location) n (Ok c.in_ok-path.path)) c.file_name.ensures.name c.in_ok-path.ensures) c.in_ok-step.ensures c.in_ok-join.ensures;
    }
