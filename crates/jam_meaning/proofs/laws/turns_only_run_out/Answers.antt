use Rattle.std.proofs.Common.{ap}
use Rattle.jam_meaning.specs.Refused.{refused_here}
use Rattle.jam_meaning.proofs.MoreTurnsKeepTheOutcome.{run_few, run_call_few}
use Rattle.jam_meaning.proofs.laws.turns_only_run_out.Goals as goal

pub returns-clause-file : goal.returns-clause-file
returns-clause-file c _ setting none k path trees s = run_few setting (λ left. ap (λ r. refused_here r left) none) k path trees s

pub returns-clause-call : goal.returns-clause-call
returns-clause-call c _ setting none k name lists spot s = run_call_few setting (λ left. ap (λ r. refused_here r left) none) k name lists spot s
