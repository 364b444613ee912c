use Rattle.std.proofs.Common.{refl}
use Rattle.b2_log.proofs.PlacesFindTheLastLines.{steps_put, scans_put}
use Rattle.b2_log.proofs.latest.Latest.restore.Goals as goal

pub returns-in-Outputs : goal.returns-in-Outputs
returns-in-Outputs c = steps_put _ _ _ c.args.self.now (record { steps = c.restore.new.map; scans = c.args.self.now.scans }) _ c.in-Outputs.is c.into_vec.ensures refl c.restore.ensures

pub returns-in-Scanned : goal.returns-in-Scanned
returns-in-Scanned c = scans_put _ _ c.args.self.now (record { steps = c.args.self.now.steps; scans = c.restore-in-Scanned.new.map }) _ c.in-Scanned.is refl c.restore-in-Scanned.ensures
