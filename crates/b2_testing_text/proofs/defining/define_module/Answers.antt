use Rattle.std.proofs.Common.{◌≡◌, List, subst, OnOk, OnErr}
use Rattle.b2_testing_text.specs.Definitions.{Definition, all_made, IsPart}
use Rattle.b2_testing_text.proofs.DefinitionsAreMadeInTurn.{module_is}
use Rattle.b2_testing_text.proofs.defining.define_module.Goals as goal

pub returns-in-Module-clause-ok : goal.returns-in-Module-clause-ok
returns-in-Module-clause-ok c =
    subst (λ (ds : List Definition). OnOk c.define_each.result (c.define_each.new.world ≡ all_made ds c.args.world.now))
    (module_is c.args.form.now c.in-Module.name c.in-Module.block c.args.path.now c.owner_of.result.now c.deref.result.now c.deref-in-Module.result.now c.in-Module.is c.deref.ensures.value c.owner_of.ensures c.deref-in-Module.ensures.value)
    c.define_each.ensures.ok

pub returns-in-Module-clause-err : goal.returns-in-Module-clause-err
returns-in-Module-clause-err c =
    subst (λ (ds : List Definition). OnErr c.define_each.result (IsPart ds c.args.world.now c.define_each.new.world))
    (module_is c.args.form.now c.in-Module.name c.in-Module.block c.args.path.now c.owner_of.result.now c.deref.result.now c.deref-in-Module.result.now c.in-Module.is c.deref.ensures.value c.owner_of.ensures c.deref-in-Module.ensures.value)
    c.define_each.ensures.err
