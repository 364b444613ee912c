use Rattle.jam_scan.proofs.GatheringsAreKnown.{gathered_has_values}
use Rattle.jam_scan.proofs.laws.gathered_has_values.Goals as goal

pub returns : goal.returns
returns c = gathered_has_values
