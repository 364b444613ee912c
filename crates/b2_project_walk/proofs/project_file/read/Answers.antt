use Rattle.b2_project_walk.proofs.FirstFileThereIsFound.{looks_ok}
use Rattle.b2_project_walk.proofs.project_file.read.Goals as goal

pub returns-in-Ok-clause-effect : goal.returns-in-Ok-clause-effect
returns-in-Ok-clause-effect g c =
    looks_ok c.in-Ok.reading c.args.path.now (g.F.Files.outside c.args.files.now) (g.F.Files.outside c.read_file.new.files) c.in-Ok.ensures.effect
