use Rattle.std.proofs.Common.{ap, subst, sym, ◌∙◌}
use Rattle.std.proofs.lemmas.Result.{IfOk-weaker}
use Rattle.b2_props.specs.Refinement.{refined}
use Rattle.b2_props.specs.Sets.{IsSet}
use Rattle.b2_references.specs.Names.{features}
use Rattle.b2_generate.proofs.SuppliesAreThoseDefined.{stays_set}
use Rattle.b2_generate.proofs.making.refined_set.Goals as goal

pub returns-then-is_empty-clause-value : goal.returns-then-is_empty-clause-value
returns-then-is_empty-clause-value c =
    IfOk-weaker c.copy.result _ _ (λ made p. stays_set (features c.args.index.now) c.args.set.now c.args.required.now made c.requires (sym c.is_empty.ensures ∙ c.if-is_empty.true) p) c.copy.ensures

pub returns-then-is_empty-clause-set : goal.returns-then-is_empty-clause-set
returns-then-is_empty-clause-set c = IfOk-weaker c.copy.result _ _ (λ made p. subst (IsSet (features c.args.index.now)) (sym p) c.requires) c.copy.ensures

pub returns-clause-value : goal.returns-clause-value
returns-clause-value c = IfOk-weaker c.refine.result _ _ (λ made p. p ∙ ap (λ d. refined d.registry c.args.set.now c.args.required.now) c.declared.ensures) c.refine.ensures.value

pub returns-clause-set : goal.returns-clause-set
returns-clause-set c = IfOk-weaker c.refine.result _ _ (λ made p. subst (λ d. IsSet d.registry made) c.declared.ensures p) c.refine.ensures.set
