use Rattle.b2_project_walk.proofs.TextRunsBesideProjects.{bytes_ran}
use Rattle.b2_project_walk.proofs.walk.WalkState.run_bytes.Goals as goal

pub returns-clause-ran : goal.returns-clause-ran
returns-clause-ran g c = bytes_ran c.args.path c.args.bytes.now _ _ _ _ c.in_ok-reading.ensures c.run_reading.ensures.ran
