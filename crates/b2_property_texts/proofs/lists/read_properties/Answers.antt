use Rattle.std.proofs.Common.{◌∙◌, Ok, sym, ap}
use Rattle.std.proofs.lemmas.Result.{err_from_is_err_and}
use Rattle.b2_property_texts.specs.Readings.{property_reading}
use Rattle.b2_property_texts.proofs.ReadingStopsAtFirstFault.{reads_next, reads_stop}
use Rattle.b2_property_texts.proofs.lists.read_properties.Goals as goal

pub returns-in_err-feature-clause-fault : goal.returns-in_err-feature-clause-fault
returns-in_err-feature-clause-fault c =
    let p = err_from_is_err_and c.from_residual.result c.from_residual.ensures.1 in
    rw (p.1, p.2) (reads_stop (property_reading c.args.registry.now c.args.dir.now) c.args.texts.now c.loop-text.text-index c.text-item.result c.loop-text.made _ c.loop-text-test.true c.text-item.is c.loop-text.invariant c.in_err-feature.ensures.fault)

pub loop-text-preserved : goal.loop-text-preserved
loop-text-preserved c =
    reads_next (property_reading c.args.registry.now c.args.dir.now) c.args.texts.now c.loop-text.text-index c.text-item.result c.loop-text.made _ c.loop-text-test.true c.text-item.is c.loop-text.invariant c.in_ok-feature.ensures.ok
    ∙ ap Ok (sym c.in_ok-push.ensures.ok)
