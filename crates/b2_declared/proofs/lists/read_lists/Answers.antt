use Rattle.std.proofs.Common.{◌∙◌, ap}
use Rattle.std.proofs.lemmas.Result.{err_from_is_err_and}
use Rattle.b2_declared.specs.Gathering.{with_lists}
use Rattle.b2_declared.proofs.ListsAreReadInTurn.{list_fault, list_next}
use Rattle.b2_declared.proofs.lists.read_lists.Goals as goal

pub returns-in_err-add-clause-fault : goal.returns-in_err-add-clause-fault
returns-in_err-add-clause-fault c =
    let p = err_from_is_err_and c.from_residual.result c.from_residual.ensures.1 in
    rw (p.1, p.2)
    (list_fault c.args.registry.now c.args.visit.now c.args.call.now c.in-Some.list.now c.in-Some.more.now c.each.made _ _ _ c.each.invariant c.in-Some.ensures.cases.0 c.in_err-add.ensures.fault)

pub each-preserved : goal.each-preserved
each-preserved c =
    let features = c.args.registry.now in
    let v = c.args.visit.now in
    let call = c.args.call.now in
    c.each.invariant ∙ ap (with_lists features v call c.each.made) c.in-Some.ensures.cases.0
    ∙ list_next features v call c.in-Some.list.now c.in-Some.more.now c.each.made c.add.new.self c.in_ok-add.ensures.ok
