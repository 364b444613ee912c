use Rattle.std.proofs.Common.{sym, ap, ◌∙◌}
use Rattle.std.proofs.lemmas.Result.{err_from_is_err_and}
use Rattle.b2_declared.specs.Gathering.{with_texts}
use Rattle.b2_declared.proofs.ListsAreReadInTurn.{texts_fault, clash_fault, list_read}
use Rattle.b2_declared.proofs.lists.Lists.add.Goals as goal

pub returns-in_err-add_texts-clause-fault : goal.returns-in_err-add_texts-clause-fault
returns-in_err-add_texts-clause-fault c =
    let p = err_from_is_err_and c.from_residual.result c.from_residual.ensures.1 in
    rw (p.1, p.2)
    (texts_fault c.args.registry.now c.args.visit.now c.args.call.now c.args.list.now c.args.more.now c.args.self.now _ _ c.as_slice.ensures c.in_err-add_texts.ensures.fault)

pub returns-then-branch-clause-fault : goal.returns-then-branch-clause-fault
returns-then-branch-clause-fault c =
    clash_fault c.args.registry.now c.args.visit.now c.args.call.now c.args.list.now c.args.more.now c.args.self.now c.add_texts.new.self
    (ap (λ texts. with_texts c.args.registry.now c.args.visit.now c.args.call.now c.args.list.now.name texts c.args.self.now) (sym c.as_slice.ensures) ∙ c.in_ok-add_texts.ensures.ok) c.refusal.result (sym c.in_ok-has_clash.ensures ∙ c.if-branch.true) c.refusal.ensures

pub returns-clause-ok : goal.returns-clause-ok
returns-clause-ok c =
    list_read c.args.registry.now c.args.visit.now c.args.call.now c.args.list.now c.args.more.now c.args.self.now c.add_texts.new.self
    (ap (λ texts. with_texts c.args.registry.now c.args.visit.now c.args.call.now c.args.list.now.name texts c.args.self.now) (sym c.as_slice.ensures) ∙ c.in_ok-add_texts.ensures.ok) (sym c.in_ok-has_clash.ensures ∙ c.if-branch.false)
