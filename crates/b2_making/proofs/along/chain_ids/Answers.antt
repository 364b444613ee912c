use Rattle.std.proofs.lemmas.Result.{err_from_is_err_and}
use Rattle.std.proofs.Common.{IfOk, sym, subst}
use Rattle.std.specs.List.{AllByRecursion}
use Rattle.b2_making.specs.MakingParts.{GivesSome}
use Rattle.b2_making.proofs.ChainGeneratorsGiveOutputs.{chain_ok, chain_err, chain_gives}
use Rattle.b2_making.proofs.ExitsKeepThePromise.{exit_alone}
use Rattle.b2_making.proofs.along.chain_ids.Goals as goal

pub returns : goal.returns
returns g c =
    record {
      ids = λ before. chain_ok c.args.setting.now c.args.site.now c.args.from.now c.args.to.now c.in_ok-found.found.ids before c.in_ok-found.ensures.only;
      given = chain_gives c.args.setting.now.types.now.generators c.args.site.now.set.now c.ids_are_distinct.ensures c.args.from.now c.args.to.now c.in_ok-found.found.ids c.in_ok-found.ensures.only;
    }

pub returns-in_err-found : goal.returns-in_err-found
returns-in_err-found g c =
    let (y, e, q) = err_from_is_err_and c.from_residual.result c.from_residual.ensures.1 in
    record {
      ids = λ before. exit_alone e q (chain_err c.args.setting.now c.args.site.now c.args.from.now c.args.to.now c.in_err-found.field-0.0 before c.in_err-found.ensures.between c.in_err-found.ensures.no_chain c.in_err-found.ensures.two_chains);
      given = subst (λ r. IfOk r (AllByRecursion (GivesSome c.args.setting.now.types.now.generators))) (sym e) tt;
    }
