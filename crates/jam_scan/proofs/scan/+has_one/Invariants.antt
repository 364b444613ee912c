use Rattle.std.proofs.Common.{length}
use Rattle.jam_scan.proofs.scan.+has_one.Given as goal

abbrev pub decreases-has_one : goal.decreases-has_one
decreases-has_one l = length l.suffixes.now
