use Rattle.jam_meaning.specs.Laws.{SameParents}
use Rattle.jam_meaning.proofs.FramesStay.{parents_kept}
use Rattle.jam_meaning.proofs.KeptByEval.{run_keeps}
use Rattle.b2_project_walk.proofs.NativesKeepParents.{keep_parents}
use Rattle.b2_project_walk.proofs.laws.files_keep_parents.Goals as goal

pub returns : goal.returns
returns c setting is path tree s = run_keeps setting SameParents SameParents (parents_kept setting (keep_parents setting is)) path tree s
