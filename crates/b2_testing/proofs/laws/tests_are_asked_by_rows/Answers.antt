use Rattle.b2_testing.proofs.RowsAskForTests.{asked_by_rows}
use Rattle.b2_testing.proofs.laws.tests_are_asked_by_rows.Goals as goal

pub returns : goal.returns
returns c = asked_by_rows
