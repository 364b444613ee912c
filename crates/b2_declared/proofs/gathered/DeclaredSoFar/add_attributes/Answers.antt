use Rattle.std.proofs.Common.{◌∙◌, Ok, sym, ap}
use Rattle.std.proofs.lemmas.Result.{err_from_is_err_and}
use Rattle.b2_declared.specs.Gathering.{lists_in}
use Rattle.b2_declared.specs.Views.{brought}
use Rattle.b2_declared.proofs.AddedUnlessListsFail.{attributes_fault_at, attributes_added, attributed_is}
use Rattle.b2_declared.proofs.gathered.DeclaredSoFar.add_attributes.Goals as goal

pub returns-in_err-lists-clause-fault : goal.returns-in_err-lists-clause-fault
returns-in_err-lists-clause-fault c =
    let p = err_from_is_err_and c.from_residual.result c.from_residual.ensures.1 in
    rw (p.1, p.2) (attributes_fault_at c.args.registry.now c.args.visit.now c.args.call.now (brought c.args.self.now) c.args.attributes.now _ _ c.as_slice.ensures c.in_err-lists.ensures.fault)

pub returns-clause-ok : goal.returns-clause-ok
returns-clause-ok c =
    let a = c.args.attributes.now in
    attributes_added c.args.registry.now c.args.visit.now c.args.call.now (brought c.args.self.now) a c.in_ok-lists.lists
    (ap (lists_in c.args.registry.now c.args.visit.now c.args.call.now) (sym c.as_slice.ensures) ∙ c.in_ok-lists.ensures.ok)
    ∙ ap Ok
    (sym
    (attributed_is c.args.visit.now c.args.call.now a c.in_ok-lists.lists (brought c.args.self.now) c.attribute.new.self c.add_own_id.new.self c.in_ok-attribute.ensures.places c.in_ok-attribute.ensures.rules
    c.attribute.ensures.others.0 c.attribute.ensures.others.1 c.attribute.ensures.others.2 c.in_ok-add_own_id.ensures.ok))
