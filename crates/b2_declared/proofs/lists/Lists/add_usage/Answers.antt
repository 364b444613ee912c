use Rattle.std.proofs.Common.{◌∙◌, Ok, sym, ap}
use Rattle.std.proofs.lemmas.Result.{err_from_is_err_and}
use Rattle.b2_declared.specs.declared.lists.Lists.{Lists}
use Rattle.b2_declared.proofs.ListsAreReadInTurn.{usage_fault, usage_read}
use Rattle.b2_declared.proofs.lists.Lists.add_usage.Goals as goal

pub returns-in_err-more-clause-fault : goal.returns-in_err-more-clause-fault
returns-in_err-more-clause-fault c =
    let p = err_from_is_err_and c.from_residual.result c.from_residual.ensures.1 in
    rw (p.1, p.2) (usage_fault c.args.registry.now c.args.visit.now c.args.call.now c.args.texts.now c.args.self.now _ c.in_err-more.ensures.fault)

pub returns-clause-ok : goal.returns-clause-ok
returns-clause-ok c =
    let l = c.args.self.now in
    usage_read c.args.registry.now c.args.visit.now c.args.call.now c.args.texts.now l c.in_ok-more.more c.in_ok-more.ensures.ok
    ∙ ap (λ xs. Ok (let made : Lists = record l { usage = xs } in made)) (sym c.in_ok-append.ensures.ok)
