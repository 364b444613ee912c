-- Where the code is, as data.
use Rattle.jam_meaning.specs.Faults.{Spot}
use Rattle.jam_effects.specs.declared.at.At.{At}

abbrev pub spot_of : At → Spot
spot_of at = record { path = at.path.now; line = at.line }
