use Rattle.b2_testing.proofs.VerdictsAreOne.{one_verdict}
use Rattle.b2_testing.proofs.LeadingIsDecided.{is_judged}
use Rattle.b2_testing.proofs.PassedTestsStand.{passed_stands}
use Rattle.b2_testing.proofs.laws.tests_are_judged_once.Goals as goal

pub returns-clause-once : goal.returns-clause-once
returns-clause-once c = one_verdict

pub returns-clause-judged : goal.returns-clause-judged
returns-clause-judged c = is_judged

pub returns-clause-stands : goal.returns-clause-stands
returns-clause-stands c = passed_stands
