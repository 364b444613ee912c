use Rattle.jam_meaning.proofs.CallsHold.{dynamic_scope, dynamic_scope_rolled}
use Rattle.jam_meaning.proofs.examples.dynamic_scope.Goals as goal

pub returns-clause-run : goal.returns-clause-run
returns-clause-run c = dynamic_scope

pub returns-clause-rolled : goal.returns-clause-rolled
returns-clause-rolled c = dynamic_scope_rolled
