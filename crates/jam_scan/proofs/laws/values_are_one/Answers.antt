use Rattle.jam_scan.proofs.GatheringsAreKnown.{values_are_one}
use Rattle.jam_scan.proofs.laws.values_are_one.Goals as goal

pub returns : goal.returns
returns c = values_are_one
