use Rattle.std.proofs.Common.{drop}
use Rattle.b2_testing_text.proofs.DefinitionsAreMadeInTurn.{Defines}
use Rattle.b2_testing_text.proofs.defining.define_each.Given as goal

abbrev pub invariant-loop-stmt : goal.invariant-loop-stmt
invariant-loop-stmt l = Defines l.path l.owner l.stmts (drop l.stmt-index l.stmts) l.initial.world l.world
