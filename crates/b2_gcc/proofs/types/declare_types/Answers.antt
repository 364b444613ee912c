use Rattle.b2_gcc.specs.Tables.{file_types}
use Rattle.b2_gcc.proofs.types.declare_types.Goals as goal

pub returns-clause-registered : goal.returns-clause-registered
unfolding file_types
returns-clause-registered c = c.register_types.ensures.registered

pub returns-clause-free : goal.returns-clause-free
unfolding file_types
returns-clause-free c = c.register_types.ensures.free

pub returns-clause-taken : goal.returns-clause-taken
unfolding file_types
returns-clause-taken c = c.register_types.ensures.taken
