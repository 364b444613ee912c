use Rattle.jam_source_laws.proofs.EvaluationBySources.{run_agrees, run_call_agrees}
use Rattle.jam_source_laws.proofs.laws.by_sources.Goals as goal

pub returns-clause-file : goal.returns-clause-file
returns-clause-file c _ roots setting folder names reading show path trees s = run_agrees roots setting folder names reading show path trees s

pub returns-clause-call : goal.returns-clause-call
returns-clause-call c _ roots setting folder names reading show name lists spot s = run_call_agrees roots setting folder names reading show name lists spot s
