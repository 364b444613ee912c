use Rattle.jam_meaning.proofs.KeptByEval.{run_keeps, run_call_keeps}
use Rattle.jam_source_laws.specs.Sources.{RootsStay}
use Rattle.jam_source_laws.proofs.RootsStay.{roots_kept}
use Rattle.jam_source_laws.proofs.laws.roots_stay.Goals as goal

pub returns-clause-file : goal.returns-clause-file
returns-clause-file c setting natives path trees s = run_keeps setting RootsStay RootsStay (roots_kept setting natives) path trees s

pub returns-clause-call : goal.returns-clause-call
returns-clause-call c setting natives name lists spot s = run_call_keeps setting RootsStay RootsStay (roots_kept setting natives) name lists spot s
