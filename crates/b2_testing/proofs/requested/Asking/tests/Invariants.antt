use Rattle.std.proofs.Common.{◌≡◌, take}
use Rattle.b2_request_plan.specs.TableRows.{rows_of}
use Rattle.b2_testing.specs.Asking.{tests_by}
use Rattle.b2_testing.proofs.requested.Asking.tests.Given as goal

-- the tests of the rows so far
abbrev pub invariant-loop-row : goal.invariant-loop-row
invariant-loop-row l = l.tests.items ≡ tests_by l.self.index.now l.self.markers.items l.self.plan.now.steps l.self.wanted (rows_of (take l.row-index l.rows))
