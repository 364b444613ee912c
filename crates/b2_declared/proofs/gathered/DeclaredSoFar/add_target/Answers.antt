use Rattle.std.proofs.Common.{◌∙◌, Ok, sym, ap}
use Rattle.std.proofs.lemmas.Result.{err_from_is_err_and}
use Rattle.b2_declared.specs.Gathering.{lists_in}
use Rattle.b2_declared.specs.Views.{brought}
use Rattle.b2_declared.proofs.AddedUnlessListsFail.{target_fault_at, target_added}
use Rattle.b2_declared.proofs.gathered.DeclaredSoFar.add_target.Goals as goal

pub returns-in_err-lists-clause-fault : goal.returns-in_err-lists-clause-fault
returns-in_err-lists-clause-fault c =
    let p = err_from_is_err_and c.from_residual.result c.from_residual.ensures.1 in
    rw (p.1, p.2) (target_fault_at c.args.registry.now c.args.visit.now c.args.call.now (brought c.args.self.now) c.args.main.now _ _ c.as_slice.ensures c.in_err-lists.ensures.fault)

pub returns-clause-ok : goal.returns-clause-ok
returns-clause-ok c =
    let m = c.args.main.now in
    target_added c.args.registry.now c.args.visit.now c.args.call.now (brought c.args.self.now) m c.in_ok-lists.lists
    (ap (lists_in c.args.registry.now c.args.visit.now c.args.call.now) (sym c.as_slice.ensures) ∙ c.in_ok-lists.ensures.ok)
    ∙ ap Ok (sym c.in_ok-push_target.ensures.ok)
