use Rattle.std.proofs.Common.{◌≡◌, ◌∙◌, ◌≤◌, subst, sym, ap, length}
use Rattle.std.proofs.lemmas.List.{take_all}
use Rattle.std.proofs.lemmas.Result.{IfOk-weaker}
use Rattle.b2_features.specs.declared.attribute.Attribute.TheVariants.{Propagated}
use Rattle.b2_features.specs.Faults.{is_with}
use Rattle.b2_props.specs.Sets.{IsSet}
use Rattle.b2_props.specs.Elements.{propagated}
use Rattle.b2_props.proofs.WrittenValuesMakeASet.{filter_set}
use Rattle.b2_props.proofs.elements.propagated.Goals as goal

pub returns-clause-set : goal.returns-clause-set
returns-clause-set c =
    let all : c.loop-pair.pairs.items ≡ propagated c.args.registry.now c.args.set.now =
    c.loop-pair.invariant
    ∙ ap (propagated c.args.registry.now) (take_all c.loop-pair.pair-index c.args.set.now (subst (λ ps. length ps ≤ c.loop-pair.pair-index) c.pairs-pair-items.ensures c.loop-pair-test.false)) in
    IfOk-weaker c.from_vec.result _ _ (λ made is. subst (IsSet c.args.registry.now) (sym (is ∙ all)) (filter_set c.args.registry.now (is_with Propagated c.args.registry.now) c.args.set.now c.requires)) c.from_vec.ensures
