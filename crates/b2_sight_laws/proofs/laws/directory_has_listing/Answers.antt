use Rattle.b2_sight_laws.proofs.NamesAtPaths.{listed}
use Rattle.b2_sight_laws.proofs.laws.directory_has_listing.Goals as goal

pub returns : goal.returns
returns c = listed
