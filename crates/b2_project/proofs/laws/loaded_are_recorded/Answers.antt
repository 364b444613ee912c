use Rattle.b2_project.proofs.CallsFirst.{calls_first}
use Rattle.b2_project.proofs.laws.loaded_are_recorded.Goals as goal

pub returns : goal.returns
returns c setting natives left words w found loads = calls_first c.files_keep_record.ensures c.calls_are_recorded.ensures setting natives left words w found loads
