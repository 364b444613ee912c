use Rattle.std.proofs.Common.{drop}
use Rattle.b2_testing_text.proofs.DefinitionsAreMadeInTurn.{DefinesAll}
use Rattle.b2_testing_text.proofs.defining.define_modules.Given as goal

abbrev pub invariant-loop-stmt : goal.invariant-loop-stmt
invariant-loop-stmt l = DefinesAll l.path l.stmts (drop l.stmt-index l.stmts) l.initial.world l.world
