use Rattle.std.proofs.Common.{◌+◌, drop}
use Rattle.std.proofs.lemmas.Result.{err_from_is_err_and}
use Rattle.jam_effects.proofs.RestBeginsWithNextItem.{next_item}
use Rattle.b2_testing_text.proofs.DefinitionsAreMadeInTurn.{form_defined, part_defined}
use Rattle.b2_testing_text.proofs.defining.define_modules.Goals as goal

pub loop-stmt-preserved : goal.loop-stmt-preserved
loop-stmt-preserved c =
    form_defined c.args.path.now c.args.stmts.now (drop c.loop-stmt.stmt-index c.args.stmts.now) (drop (c.loop-stmt.stmt-index + 1) c.args.stmts.now) c.stmt-item.result c.args.world.now c.loop-stmt.world c.define_module.new.world
    (next_item c.args.stmts.now c.loop-stmt.stmt-index c.stmt-item.result c.loop-stmt-test.true c.stmt-item.is) c.loop-stmt.invariant c.in_ok-define_module.ensures.ok

pub returns-in_err-define_module-clause-err : goal.returns-in_err-define_module-clause-err
returns-in_err-define_module-clause-err c =
    let p = err_from_is_err_and c.from_residual.result c.from_residual.ensures.1 in
    rw p.1
    (part_defined c.args.path.now c.args.stmts.now (drop c.loop-stmt.stmt-index c.args.stmts.now) (drop (c.loop-stmt.stmt-index + 1) c.args.stmts.now) c.stmt-item.result c.args.world.now c.loop-stmt.world c.define_module.new.world
    (next_item c.args.stmts.now c.loop-stmt.stmt-index c.stmt-item.result c.loop-stmt-test.true c.stmt-item.is) c.loop-stmt.invariant c.in_err-define_module.ensures.err)
