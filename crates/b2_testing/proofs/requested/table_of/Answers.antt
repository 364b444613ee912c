use Rattle.b2_testing.proofs.RowsAreLookedUp.{table_next}
use Rattle.b2_testing.proofs.requested.table_of.Goals as goal

pub loop-path-preserved : goal.loop-path-preserved
loop-path-preserved c =
    table_next c.args.paths.now c.loop-path.path-index c.path-item.result c.loop-path.table c.number_of.new.self c.loop-path-test.true c.path-item.is
    c.number_of.ensures.stays c.in_ok-number_of.ensures.added c.loop-path.invariant
