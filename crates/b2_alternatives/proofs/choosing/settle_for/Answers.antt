use Rattle.std.proofs.Common.{◌∙◌, List, All, Err, length, refl, sym, ap, subst}
use Rattle.std.proofs.lemmas.Result.{err_from_is_err_and}
use Rattle.b2_props.specs.declared.requirement.Requirement.{Requirement}
use Rattle.b2_props.specs.Requirements.{AsksBelow}
use Rattle.b2_references.specs.Names.{Name}
use Rattle.b2_alternatives.specs.Choosing.{requirements}
use Rattle.b2_alternatives.specs.Settling.{IsSettling}
use Rattle.b2_alternatives.proofs.ChoiceFollowsSettling.{memory}
use Rattle.b2_alternatives.proofs.choosing.settle_for.Goals as goal

pub settle-requires-clause-rules : goal.settle-requires-clause-rules
settle-requires-clause-rules g c = subst (λ (rs : List Requirement). All (AsksBelow (length c.args.asker.now.index.now.indirect)) rs) (sym (c.as_slice.ensures ∙ c.in_ok-required.ensures)) c.requires.rules

pub returns-in_err-required : goal.returns-in_err-required
returns-in_err-required g c =
    let q = err_from_is_err_and c.from_residual.result c.from_residual.ensures.1 in
    memory g.E.Evaluate.answers g.E.Evaluate.kept g.E.Evaluate.faults g.E.Evaluate.is_host_fault g.E.Evaluate.is_out_of_memory g.E.Evaluate.CanFault c.args.asker.now.index.now c.args.asker.now.evaluator c.args.asker.now.index.now c.args.asker.now.evaluator c.from_residual.result (q.1 ∙ ap Err q.2) refl refl refl

pub returns-in_err-asker : goal.returns-in_err-asker
returns-in_err-asker g c =
    let q = err_from_is_err_and c.from_residual-in_err-asker.result c.from_residual-in_err-asker.ensures.1 in
    memory g.E.Evaluate.answers g.E.Evaluate.kept g.E.Evaluate.faults g.E.Evaluate.is_host_fault g.E.Evaluate.is_out_of_memory g.E.Evaluate.CanFault c.args.asker.now.index.now c.args.asker.now.evaluator c.args.asker.now.index.now c.args.asker.now.evaluator c.from_residual-in_err-asker.result (q.1 ∙ ap Err q.2) refl refl refl

pub returns : goal.returns
returns g c =
    subst (λ (n : Name). IsSettling g.E.Evaluate.answers g.E.Evaluate.kept g.E.Evaluate.faults g.E.Evaluate.is_host_fault g.E.Evaluate.is_out_of_memory g.E.Evaluate.CanFault c.args.asker.now.index.now c.settle.new.asker.index.now c.args.asker.now.evaluator c.settle.new.asker.evaluator n c.args.full.now (requirements c.args.asker.now.index.now c.args.target.now) c.settle.result) c.in_ok-asker.ensures
    (subst (λ (rs : List Requirement). IsSettling g.E.Evaluate.answers g.E.Evaluate.kept g.E.Evaluate.faults g.E.Evaluate.is_host_fault g.E.Evaluate.is_out_of_memory g.E.Evaluate.CanFault c.args.asker.now.index.now c.settle.new.asker.index.now c.args.asker.now.evaluator c.settle.new.asker.evaluator c.in_ok-asker.field-0 c.args.full.now rs c.settle.result) (c.as_slice.ensures ∙ c.in_ok-required.ensures) c.settle.ensures)
