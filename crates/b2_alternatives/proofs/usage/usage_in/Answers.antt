use Rattle.std.proofs.Common.{◌∙◌, ◌++◌, ap, sym}
use Rattle.b2_alternatives.specs.Usage.{usage_pairs}
use Rattle.b2_alternatives.proofs.LevelsYieldToThoseBelow.{usage_next}
use Rattle.b2_alternatives.proofs.usage.usage_in.Goals as goal

pub loop-requirement-preserved : goal.loop-requirement-preserved
loop-requirement-preserved c = λ set is.
    c.in_ok-add_usage.ensures set is ∙ ap (λ ps. ps ++ usage_pairs set c.requirement-item.result) (c.loop-requirement.invariant set is)
    ∙ sym (usage_next set c.args.usage.now c.loop-requirement.requirement-index c.requirement-item.result c.loop-requirement-test.true c.requirement-item.is)
