use Rattle.jam_meaning.specs.Laws.{SameFrames}
use Rattle.jam_meaning.proofs.FramesStay.{SameBelow, frames_kept}
use Rattle.jam_meaning.proofs.KeptByEval.{run_keeps, run_call_keeps}
use Rattle.jam_meaning.proofs.laws.frames_stay.Goals as goal

pub returns-clause-file : goal.returns-clause-file
returns-clause-file c _ setting natives path trees s = run_keeps setting SameFrames SameBelow (frames_kept setting natives) path trees s

pub returns-clause-call : goal.returns-clause-call
returns-clause-call c _ setting natives name lists spot s = run_call_keeps setting SameFrames SameBelow (frames_kept setting natives) name lists spot s
