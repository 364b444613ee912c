use Rattle.std.proofs.Common.{◌≡◌, ◌∙◌, true, false, sym, ap}
use Rattle.b2_generators.specs.Table.{Registered}
use Rattle.b2_gcc.specs.Tables.{generators}
use Rattle.b2_gcc.specs.TableDeclarations.{are_generators_refused}
use Rattle.b2_gcc.proofs.FreshTablesRefuseNothing.{generators_fresh}
use Rattle.b2_gcc.proofs.types.declare_generators.Goals as goal

pub returns-clause-registered : goal.returns-clause-registered
unfolding generators
returns-clause-registered c = c.register_generators.ensures.registered

pub returns-clause-free : goal.returns-clause-free
unfolding generators
returns-clause-free c = c.register_generators.ensures.free

pub returns-clause-taken : goal.returns-clause-taken
unfolding generators
returns-clause-taken c = c.register_generators.ensures.taken

pub returns-clause-on_empty : goal.returns-clause-on_empty
unfolding generators
returns-clause-on_empty c = λ e refused.
    let clash : true ≡ false = sym (c.register_generators.ensures.taken refused) ∙ ap (λ (r : Registered). are_generators_refused r generators) e ∙ generators_fresh in cc
