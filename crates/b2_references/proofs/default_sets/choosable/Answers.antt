use Rattle.std.proofs.Common.{◌∙◌, ap, not, ◌&&◌}
use Rattle.b2_features.specs.declared.attribute.Attribute.TheVariants.{Free}
use Rattle.b2_features.specs.Faults.{is_with}
use Rattle.b2_references.proofs.LoopsTakeOneMore.{choosable_next}
use Rattle.b2_references.proofs.default_sets.choosable.Goals as goal

pub loop-pair-preserved : goal.loop-pair-preserved
loop-pair-preserved c =
    choosable_next c.args.registry.now c.args.set.now c.args.pairs.now c.loop-pair.pair-index c.pair-item.result c.is_choosable.result c.push_if.new.list c.loop-pair.made c.loop-pair-test.true c.pair-item.is
    (c.is_choosable.ensures ∙ ap (λ b. not b && not (is_with Free c.args.registry.now c.pair-item.result.0)) (c.in_ok-named.ensures c.pair-item.result.0)) c.in_ok-push_if.ensures c.loop-pair.invariant
