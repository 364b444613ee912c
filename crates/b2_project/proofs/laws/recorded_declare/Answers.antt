use Rattle.b2_project.proofs.RecordedRulesAreDeclaring.{recorded_declare}
use Rattle.b2_project.proofs.laws.recorded_declare.Goals as goal

pub returns : goal.returns
returns c name = recorded_declare name
