use Rattle.jam_scan.proofs.GatheringsAreKnown.{gathered_is_known}
use Rattle.jam_scan.proofs.laws.gathered_is_known.Goals as goal

pub returns : goal.returns
returns c = gathered_is_known
