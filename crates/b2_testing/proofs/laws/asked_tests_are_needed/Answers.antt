use Rattle.b2_testing.proofs.AskedTestsAreNeeded.{asked_are_needed}
use Rattle.b2_testing.proofs.laws.asked_tests_are_needed.Goals as goal

pub returns : goal.returns
returns c = asked_are_needed
