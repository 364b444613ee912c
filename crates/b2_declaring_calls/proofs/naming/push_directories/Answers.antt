use Rattle.std.proofs.lemmas.List.Elements.{filter_map-append}
use Rattle.b2_declaring_calls.specs.Directories.{directory_of, directories}
use Rattle.b2_declaring_calls.proofs.ListsGrowByOne.{appended}
use Rattle.b2_declaring_calls.proofs.naming.push_directories.Goals as goal

pub loop-text-preserved : goal.loop-text-preserved
loop-text-preserved c =
    appended (directories c.args.owner.now) (filter_map-append (directory_of c.args.owner.now)) c.args.texts.now c.loop-text.text-index c.text-item.result c.loop-text-test.true c.text-item.is _ _ _ c.loop-text.invariant c.in_ok-push_directory.ensures
