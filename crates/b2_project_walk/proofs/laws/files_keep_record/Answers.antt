use Rattle.jam_meaning.proofs.KeptByEval.{run_keeps}
use Rattle.b2_project_walk.specs.Laws.{KeepsRecord}
use Rattle.b2_project_walk.proofs.NativesKeepTheRecord.{record_kept}
use Rattle.b2_project_walk.proofs.laws.files_keep_record.Goals as goal

pub returns : goal.returns
returns c setting is path tree s = run_keeps setting KeepsRecord KeepsRecord (record_kept setting is) path tree s
