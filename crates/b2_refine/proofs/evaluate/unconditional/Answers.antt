use Rattle.std.proofs.Common.{◌∙◌, ◌++◌, ap, sym}
use Rattle.b2_refine.specs.Conditions.{own_pairs}
use Rattle.b2_refine.proofs.RequirementsGiveOneByOne.{own_next}
use Rattle.b2_refine.proofs.evaluate.unconditional.Goals as goal

pub loop-requirement-preserved : goal.loop-requirement-preserved
loop-requirement-preserved c =
    c.in_ok-add_own.ensures ∙ ap (λ ps. ps ++ own_pairs c.requirement-item.result) c.loop-requirement.invariant
    ∙ sym (own_next c.args.required.now c.loop-requirement.requirement-index c.requirement-item.result c.loop-requirement-test.true c.requirement-item.is)
