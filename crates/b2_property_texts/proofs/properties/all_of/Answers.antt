use Rattle.std.proofs.Common.{◌∙◌, Some, sym, ap}
use Rattle.b2_property_texts.proofs.ReadingStopsAtFirstFault.{all_next, all_none}
use Rattle.b2_property_texts.proofs.properties.all_of.Goals as goal

pub returns-in_default : goal.returns-in_default
returns-in_default c =
    sym (all_none c.args.registry.now c.args.dir.now c.args.texts.now c.loop-text.text-index c.text-item.result c.loop-text-test.true c.text-item.is (sym c.in_ok-feature.ensures ∙ c.in_default.is))

pub loop-text-preserved : goal.loop-text-preserved
loop-text-preserved c =
    all_next c.args.registry.now c.args.dir.now c.args.texts.now c.loop-text.text-index c.text-item.result c.loop-text.made _ c.loop-text-test.true c.text-item.is c.loop-text.invariant (sym c.in_ok-feature.ensures ∙ c.in-Some.is)
    ∙ ap Some (sym c.in_ok-push.ensures.ok)
