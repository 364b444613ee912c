use Rattle.std.proofs.Common.{[], sym, subst}
use Rattle.b2_base.specs.Segments.{texts}
use Rattle.b2_files.specs.Names.{Gathered}
use Rattle.b2_files.specs.StoreDisks.{told}
use Rattle.b2_files.proofs.GatheredNamesAreTheListing.{gathered_none, gathered_step, gathered_all}
use Rattle.b2_files.proofs.store.Store.list_names.Goals as goal

pub loop-path-init : goal.loop-path-init
loop-path-init c = subst (Gathered (told c.args.self.now).now c.args.dir.now [] (texts c.args.paths.now)) (sym c.new-names.ensures) (gathered_none (told c.args.self.now).now c.args.dir.now (texts c.args.paths.now))

pub loop-path-preserved : goal.loop-path-preserved
loop-path-preserved c =
    gathered_step (told c.args.self.now).now c.args.dir.now c.args.paths.now c.loop-path.path-index c.path-item.result c.loop-path.names c.list_one.new.names c.loop-path-test.true c.path-item.is c.requires c.loop-path.invariant c.in_ok-list_one.ensures

pub returns : goal.returns
returns c = gathered_all (told c.args.self.now).now c.args.dir.now c.args.paths.now c.loop-path.path-index c.loop-path.names c.loop-path-test.false c.loop-path.invariant
