use Rattle.b2_project.proofs.LoadsAnswerWhatIsDeclared.{declared_of}
use Rattle.b2_project.proofs.load.declares.Goals as goal

pub returns-in-Ok : goal.returns-in-Ok
returns-in-Ok c =
    declared_of c.args.walk.now c.in-Ok.declared c.as_slice.result.now c.as_slice-2.result.now c.as_slice.ensures.same c.as_slice.ensures.parents c.as_slice-2.ensures.value
    c.in-Ok.ensures.ok c.in-Ok.ensures.places c.in-Ok.ensures.sound
