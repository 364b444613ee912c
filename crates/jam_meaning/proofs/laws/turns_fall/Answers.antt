use Rattle.jam_meaning.specs.Laws.{TurnsFall}
use Rattle.jam_meaning.proofs.FramesStay.{turns_kept}
use Rattle.jam_meaning.proofs.KeptByEval.{run_keeps, run_call_keeps}
use Rattle.jam_meaning.proofs.laws.turns_fall.Goals as goal

pub returns-clause-file : goal.returns-clause-file
returns-clause-file c _ setting path trees s = run_keeps setting TurnsFall TurnsFall (turns_kept setting) path trees s

pub returns-clause-call : goal.returns-clause-call
returns-clause-call c _ setting name lists spot s = run_call_keeps setting TurnsFall TurnsFall (turns_kept setting) name lists spot s
