use Rattle.std.proofs.Common.{◌++◌, ◌∙◌, ap, string_bytes}
use Rattle.b2_refusals.proofs.TextsGrowByOneElement.{one_more}
use Rattle.b2_refusals.proofs.lists.joined_from.Goals as goal

pub loop-other-preserved : goal.loop-other-preserved
loop-other-preserved c =
    one_more (λ other. c.args.between.now ++ other) c.args.others.now c.loop-other.other-index c.other-item.result c.args.first.now _ _ c.loop-other-test.true c.other-item.is c.loop-other.invariant
    (c.in_ok-push_both.ensures ∙ ap (λ text. string_bytes c.loop-other.line ++ (c.args.between.now ++ text)) c.as_str-in-loop-other.ensures.value)
