use Rattle.b2_testing_text.proofs.TextRunsToItsEnd.{text_runs, six_definitions}
use Rattle.b2_testing_text.proofs.laws.text_runs.Goals as goal

pub returns-clause-runs : goal.returns-clause-runs
returns-clause-runs c = text_runs

pub returns-clause-six : goal.returns-clause-six
returns-clause-six c = six_definitions
