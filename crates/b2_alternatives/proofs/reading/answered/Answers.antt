use Rattle.std.proofs.Common.{◌∙◌, ap, sym}
use Rattle.b2_alternatives.specs.declared.reading.ReturnedProperties.TheVariants.{Properties, Bad}
use Rattle.b2_alternatives.proofs.FirstBadTextStopsReading.{answered_next, answered_stop}
use Rattle.b2_alternatives.proofs.reading.answered.Goals as goal

pub returns-in-None : goal.returns-in-None
returns-in-None c =
    ap Bad c.in_ok-copy-in-None.ensures
    ∙ sym (answered_stop c.args.declared.now c.args.dir.now c.args.texts.now c.loop-text.text-index c.text-item.result c.loop-text.made c.loop-text-test.true c.text-item.is c.loop-text.invariant (sym c.in_ok-feature.ensures ∙ c.in-None.is))

pub loop-text-preserved : goal.loop-text-preserved
loop-text-preserved c =
    answered_next c.args.declared.now c.args.dir.now c.args.texts.now c.loop-text.text-index c.text-item.result c.loop-text.made c.loop-text-test.true c.text-item.is c.loop-text.invariant (c.in-Some.feature, c.in-Some.value) (sym c.in_ok-feature.ensures ∙ c.in-Some.is)
    ∙ ap Properties (sym c.in_ok-push-in-Some.ensures.ok)
