use Rattle.std.proofs.Common.{◌∙◌, Err, refl, sym, ap, subst}
use Rattle.std.proofs.lemmas.Result.{err_from_is_err_and}
use Rattle.b2_alternatives.specs.Picking.{IsPicked, IsSelected, IsUnpicked}
use Rattle.b2_alternatives.proofs.ChosenIfOneSettles.{refuses_none, refuses_two}
use Rattle.b2_alternatives.proofs.choosing.select.Goals as goal

pub returns-in_err-full : goal.returns-in_err-full
returns-in_err-full g c =
    let q = err_from_is_err_and c.from_residual.result c.from_residual.ensures.1 in
    subst (IsSelected c.args.index.now c.args.name.now c.args.set.now) (sym (q.1 ∙ ap Err q.2)) tt

pub returns-in_err-pick : goal.returns-in_err-pick
returns-in_err-pick g c =
    let q = err_from_is_err_and c.from_residual-in_err-pick.result c.from_residual-in_err-pick.ensures.1 in
    subst (IsSelected c.args.index.now c.args.name.now c.args.set.now) (sym (q.1 ∙ ap Err q.2)) tt

pub returns-in_err-no_alternative-in-None : goal.returns-in_err-no_alternative-in-None
returns-in_err-no_alternative-in-None g c =
    let q = err_from_is_err_and c.from_residual-in_err-no_alternative-in-None.result c.from_residual-in_err-no_alternative-in-None.ensures.1 in
    subst (IsSelected c.args.index.now c.args.name.now c.args.set.now) (sym (q.1 ∙ ap Err q.2)) tt

pub returns-in_err-ambiguous-in-Ambiguous : goal.returns-in_err-ambiguous-in-Ambiguous
returns-in_err-ambiguous-in-Ambiguous g c =
    let q = err_from_is_err_and c.from_residual-in_err-ambiguous-in-Ambiguous.result c.from_residual-in_err-ambiguous-in-Ambiguous.ensures.1 in
    subst (IsSelected c.args.index.now c.args.name.now c.args.set.now) (sym (q.1 ∙ ap Err q.2)) tt

pub returns-in_ok-no_alternative-in-None : goal.returns-in_ok-no_alternative-in-None
returns-in_ok-no_alternative-in-None g c =
    subst (IsUnpicked c.args.index.now c.args.name.now c.args.set.now) (sym c.in_ok-no_alternative-in-None.ensures)
    (λ returned.
    refuses_none c.args.index.now returned c.args.name.now c.args.set.now c.in_ok-full.full c.in_ok-full.ensures.value _
    (subst (IsPicked c.args.index.now c.args.name.now c.in_ok-full.full) c.in-None.is c.in_ok-pick.ensures) refl)

pub returns-in_ok-ambiguous-in-Ambiguous : goal.returns-in_ok-ambiguous-in-Ambiguous
returns-in_ok-ambiguous-in-Ambiguous g c =
    subst (IsUnpicked c.args.index.now c.args.name.now c.args.set.now) (sym c.in_ok-ambiguous-in-Ambiguous.ensures)
    (λ returned.
    refuses_two c.args.index.now returned c.args.name.now c.args.set.now c.in_ok-full.full c.in_ok-full.ensures.value c.in-Ambiguous.i c.in-Ambiguous.k _
    (subst (IsPicked c.args.index.now c.args.name.now c.in_ok-full.full) c.in-Ambiguous.is c.in_ok-pick.ensures) refl)

pub returns-in-One : goal.returns-in-One
returns-in-One g c = record {
  full = c.in_ok-full.ensures.value;
  is_set = c.in_ok-full.ensures.set;
  at = subst (IsPicked c.args.index.now c.args.name.now c.in_ok-full.full) c.in-One.is c.in_ok-pick.ensures;
}
