use Rattle.b2_testing.proofs.RowsAreLookedUp.{set_at, tests_next}
use Rattle.b2_testing.proofs.requested.Asking.tests.Goals as goal

pub add_test-requires : goal.add_test-requires
add_test-requires c = set_at c.args.self.now.index.now c.args.rows.now c.loop-row.row-index c.row-item.result c.requires c.loop-row-test.true c.row-item.is

pub loop-row-preserved : goal.loop-row-preserved
loop-row-preserved c =
    let asking = c.args.self.now in
    tests_next asking.index.now asking.markers.items asking.plan.now.steps asking.wanted c.args.rows.now c.loop-row.row-index c.row-item.result c.loop-row.tests.items c.add_test.new.tests.items c.loop-row-test.true
    c.row-item.is c.in_ok-add_test.ensures c.loop-row.invariant
