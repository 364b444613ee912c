use Rattle.std.proofs.Common.{◌+◌, drop}
use Rattle.jam_effects.proofs.RestBeginsWithNextItem.{next_item}
use Rattle.b2_testing_text.proofs.DefinitionsAreMadeInTurn.{one_defined}
use Rattle.b2_testing_text.proofs.defining.define_each.Goals as goal

pub loop-stmt-preserved : goal.loop-stmt-preserved
loop-stmt-preserved c =
    one_defined c.args.path.now c.args.owner.now c.args.stmts.now (drop c.loop-stmt.stmt-index c.args.stmts.now) (drop (c.loop-stmt.stmt-index + 1) c.args.stmts.now) c.stmt-item.result c.args.world.now c.loop-stmt.world c.define.new.world
    (next_item c.args.stmts.now c.loop-stmt.stmt-index c.stmt-item.result c.loop-stmt-test.true c.stmt-item.is) c.loop-stmt.invariant c.in_ok-define.ensures.ok
