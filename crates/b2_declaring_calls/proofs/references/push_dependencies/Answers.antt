use Rattle.std.proofs.lemmas.List.Elements.{filter_map-append}
use Rattle.b2_declaring_calls.specs.References.{dependency_in, dependencies}
use Rattle.b2_declaring_calls.proofs.ListsGrowByOne.{appended}
use Rattle.b2_declaring_calls.proofs.references.push_dependencies.Goals as goal

pub loop-text-preserved : goal.loop-text-preserved
loop-text-preserved c =
    appended (dependencies c.args.reading) (filter_map-append (dependency_in c.args.reading)) c.args.texts.now c.loop-text.text-index c.text-item.result c.loop-text-test.true c.text-item.is _ _ _ c.loop-text.invariant c.in_ok-push_dependency.ensures
