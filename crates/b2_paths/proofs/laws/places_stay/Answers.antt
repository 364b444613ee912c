use Rattle.b2_paths.proofs.PathsKeepTheirPlaces.{places_stay}
use Rattle.b2_paths.proofs.laws.places_stay.Goals as goal

pub returns : goal.returns
returns c = places_stay
