use Rattle.std.proofs.Common.{◌++◌, ◌∙◌, ap, string_bytes, codes}
use Rattle.b2_alternatives.specs.Choosing.{property_text}
use Rattle.b2_refusals.proofs.TextsGrowByOneElement.{one_more}
use Rattle.b2_refusals.proofs.lists.push_properties.Goals as goal

pub loop-pair-preserved : goal.loop-pair-preserved
loop-pair-preserved c =
    one_more (λ pair. codes " " ++ property_text pair) c.args.pairs.now c.loop-pair.pair-index c.pair-item.result (string_bytes c.args.line.now) _ _ c.loop-pair-test.true c.pair-item.is c.loop-pair.invariant
    (c.in_ok-push_both.ensures ∙ ap (λ text. string_bytes c.loop-pair.line ++ (codes " " ++ text)) (c.as_str.ensures.value ∙ c.in_ok-text.ensures))
