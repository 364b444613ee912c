use Rattle.b2_paths.proofs.PathsKeepTheirPlaces.{listed_has_place}
use Rattle.b2_paths.proofs.laws.listed_has_place.Goals as goal

pub returns : goal.returns
returns c = listed_has_place
