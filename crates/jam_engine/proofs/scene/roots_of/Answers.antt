use Rattle.std.proofs.Common.{ap, ◌++◌, ◌∙◌}
use Rattle.std.specs.List.{filter_map}
use Rattle.std.specs.Prelude.{codes}
use Rattle.std.proofs.lemmas.List.{take_all}
use Rattle.jam_journal.specs.Scopes.{look_in, module_of}
use Rattle.jam_scope.specs.Texts.{first_roots}
use Rattle.jam_graph.proofs.ListsGrow.{filter_on}
use Rattle.jam_engine.specs.Targets.{root_of}
use Rattle.jam_engine.proofs.scene.roots_of.Goals as goal

pub loop-dir-preserved : goal.loop-dir-preserved
loop-dir-preserved c =
    filter_on root_of first_roots _ _ c.look-dir-items.result.now c.loop-dir.dir-index c.dir-item.result c.loop-dir-test.true c.dir-item.is c.loop-dir.invariant c.in_ok-push_root.ensures

pub returns : goal.returns
returns c =
    let dirs = c.look-dir-items.result.now in
    c.loop-dir.invariant
    ∙ ap (λ l. first_roots ++ filter_map root_of l) (
    take_all c.loop-dir.dir-index dirs c.loop-dir-test.false ∙ c.look-dir-items.ensures
    ∙ ap (λ owner. look_in owner c.args.world.now.now.scopes (codes "OUTPUT_DIRS")) (ap module_of c.requires))
