use Rattle.jam_values.proofs.OneReading.{one_reading}
use Rattle.jam_values.proofs.laws.one_reading.Goals as goal

pub returns : goal.returns
returns c = one_reading
