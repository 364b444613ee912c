use Rattle.b2_sight_laws.proofs.SightOfDisk.{has_sight}
use Rattle.b2_sight_laws.proofs.laws.disk_has_sight.Goals as goal

pub returns : goal.returns
returns c = has_sight
