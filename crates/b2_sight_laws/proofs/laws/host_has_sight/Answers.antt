use Rattle.b2_sight_laws.proofs.SightOfDisk.{where_seen}
use Rattle.b2_sight_laws.proofs.laws.host_has_sight.Goals as goal

pub returns : goal.returns
returns g c files = where_seen (g.F.Files.outside files).disk (g.met.F.Files.consistent files)
