use Rattle.std.proofs.Common.{refl}
use Rattle.b2_log.proofs.PlacesFindTheLastLines.{steps_put, scans_put}
use Rattle.b2_log.proofs.latest.Latest.put.Goals as goal

pub returns-in_ok-insert-in-Outputs-clause-ok : goal.returns-in_ok-insert-in-Outputs-clause-ok
returns-in_ok-insert-in-Outputs-clause-ok c = steps_put _ _ _ c.args.self.now (record { steps = c.insert.new.self; scans = c.args.self.now.scans }) _ c.in-Outputs.is c.into_vec.ensures refl c.in_ok-insert-in-Outputs.ensures.updates

pub returns-in_ok-insert-in-Scanned-clause-ok : goal.returns-in_ok-insert-in-Scanned-clause-ok
returns-in_ok-insert-in-Scanned-clause-ok c = scans_put _ _ c.args.self.now (record { steps = c.args.self.now.steps; scans = c.insert-in-Scanned.new.self }) _ c.in-Scanned.is refl c.in_ok-insert-in-Scanned.ensures.updates
