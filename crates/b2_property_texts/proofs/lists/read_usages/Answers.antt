use Rattle.std.proofs.Common.{◌∙◌, Ok, sym, ap}
use Rattle.std.proofs.lemmas.Result.{err_from_is_err_and}
use Rattle.b2_property_texts.specs.Readings.{usage_reading}
use Rattle.b2_property_texts.proofs.ReadingStopsAtFirstFault.{reads_next, reads_stop}
use Rattle.b2_property_texts.proofs.lists.read_usages.Goals as goal

pub returns-in_err-read_usage-clause-fault : goal.returns-in_err-read_usage-clause-fault
returns-in_err-read_usage-clause-fault c =
    let p = err_from_is_err_and c.from_residual.result c.from_residual.ensures.1 in
    rw (p.1, p.2) (reads_stop (usage_reading c.args.registry.now c.args.dir.now) c.args.texts.now c.loop-text.text-index c.text-item.result c.loop-text.made _ c.loop-text-test.true c.text-item.is c.loop-text.invariant c.in_err-read_usage.ensures.fault)

pub loop-text-preserved : goal.loop-text-preserved
loop-text-preserved c =
    reads_next (usage_reading c.args.registry.now c.args.dir.now) c.args.texts.now c.loop-text.text-index c.text-item.result c.loop-text.made _ c.loop-text-test.true c.text-item.is c.loop-text.invariant c.in_ok-read_usage.ensures.ok
    ∙ ap Ok (sym c.in_ok-push.ensures.ok)
