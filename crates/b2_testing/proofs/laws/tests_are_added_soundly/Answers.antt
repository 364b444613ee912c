use Rattle.b2_testing.proofs.AddedTargetsAreSound.{added_are_sound, markers_are_last}
use Rattle.b2_testing.proofs.laws.tests_are_added_soundly.Goals as goal

pub returns-clause-sound : goal.returns-clause-sound
returns-clause-sound c = added_are_sound

pub returns-clause-last : goal.returns-clause-last
returns-clause-last c = markers_are_last
