use Rattle.std.proofs.Common.{◌∙◌, ◌++◌, ◌∷◌, [], ap, sym}
use Rattle.b2_making.specs.Steps.{include_dirs}
use Rattle.b2_making.proofs.MadeTextsHaveNoZero.{include_next}
use Rattle.b2_making.proofs.step.include_dirs.Goals as goal

pub loop-pair-preserved : goal.loop-pair-preserved
loop-pair-preserved c =
    c.in_ok-push_include.ensures ∙ ap (λ ds. ds ++ include_dirs (c.pair-item.result ∷ [])) c.loop-pair.invariant
    ∙ sym (include_next c.pairs-pair-items.result.now c.loop-pair.pair-index c.pair-item.result c.loop-pair-test.true c.pair-item.is)
