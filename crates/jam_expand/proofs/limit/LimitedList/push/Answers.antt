use Rattle.std.proofs.Common.{◌≡◌, ◌∷◌, ◌++◌, [], ap, sym, ◌∙◌, subst, ◌⊎◌, List, ℕ, Err}
use Rattle.b2_base.specs.declared.expand_fault.ExpandFault.TheVariants as faults
use Rattle.std.proofs.lemmas.Result.{err_from_is_err_and}
use Rattle.jam_expand.specs.Limits.{within}
use Rattle.jam_expand.proofs.SumTellsIfTooLarge.{sum_small, longer_within, longer_given, within_is_ok}
use Rattle.jam_expand.proofs.limit.LimitedList.push.Goals as goal

pub longer-requires : goal.longer-requires
longer-requires c = sum_small c.self.inside.texts c.self.inside.sum c.self.invariant

pub returns-in_err-sum-clause-given : goal.returns-in_err-sum-clause-given
returns-in_err-sum-clause-given c =
    let p = err_from_is_err_and c.from_residual.result c.from_residual.ensures.1 in
    let fault = c.in_err-sum.field-0.0 in
    rw (p.1, p.2)
    (subst (λ (texts : List (List ℕ)). (fault ≡ faults.OutOfMemory) ⊎ (within (texts ++ c.args.text ∷ []) ≡ Err fault)) c.self.view_is
    (longer_given c.self.inside.texts c.args.text c.self.inside.sum fault c.self.invariant (rw c.as_str.ensures.value at c.in_err-sum.ensures)))

pub invariant_of-self-2 : goal.invariant_of-self-2
invariant_of-self-2 c = rw c.in_ok-push.ensures.ok (longer_within c.self.inside.texts c.args.text c.self.inside.sum c.in_ok-sum.sum c.self.invariant (rw c.as_str.ensures.value at c.in_ok-sum.ensures))

pub returns-clause-given : goal.returns-clause-given
returns-clause-given c =
    ap within (ap (λ texts. texts ++ c.args.text ∷ []) (sym c.self.view_is) ∙ sym c.in_ok-push.ensures.ok)
    ∙ within_is_ok c.push.new.self c.in_ok-sum.sum (rw c.in_ok-push.ensures.ok (longer_within c.self.inside.texts c.args.text c.self.inside.sum c.in_ok-sum.sum c.self.invariant (rw c.as_str.ensures.value at c.in_ok-sum.ensures)))
