use Rattle.jam_scan.proofs.PlacesAreNormal.{places_are_normal}
use Rattle.jam_scan.proofs.laws.places_are_normal.Goals as goal

pub returns : goal.returns
returns c = places_are_normal
