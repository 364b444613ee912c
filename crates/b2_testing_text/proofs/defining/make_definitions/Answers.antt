use Rattle.std.proofs.Common.{◌≡◌, List, subst, OnOk, OnErr}
use Rattle.b2_testing_text.specs.Definitions.{Definition, all_made, IsPart}
use Rattle.b2_testing_text.proofs.DefinitionsAreMadeInTurn.{all_are}
use Rattle.b2_testing_text.proofs.DefinitionsKeepTheRest.{rest_kept}
use Rattle.b2_testing_text.proofs.defining.make_definitions.Goals as goal

pub returns-clause-ok : goal.returns-clause-ok
returns-clause-ok c =
    subst (λ (ds : List Definition). OnOk c.define_modules.result (c.define_modules.new.world ≡ all_made ds c.args.world.now))
    (all_are c.in_ok-tree.tree c.in_ok-path.path c.deref.result.now c.in_ok-tree.ensures c.in_ok-path.ensures c.deref.ensures.value) c.define_modules.ensures.ok

pub returns-clause-err : goal.returns-clause-err
returns-clause-err c =
    subst (λ (ds : List Definition). OnErr c.define_modules.result (IsPart ds c.args.world.now c.define_modules.new.world))
    (all_are c.in_ok-tree.tree c.in_ok-path.path c.deref.result.now c.in_ok-tree.ensures c.in_ok-path.ensures c.deref.ensures.value) c.define_modules.ensures.err

pub returns-clause-rest : goal.returns-clause-rest
returns-clause-rest c =
    rest_kept c.define_modules.result c.args.world.now c.define_modules.new.world (returns-clause-ok c) (returns-clause-err c)
