use Rattle.b2_project_walk.proofs.CallsAreThoseRecorded.{calls_recorded}
use Rattle.b2_project_walk.proofs.laws.calls_are_recorded.Goals as goal

pub returns : goal.returns
returns c setting natives left words w comes = calls_recorded c.files_keep_record.ensures setting natives left words w comes
