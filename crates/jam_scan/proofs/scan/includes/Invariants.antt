use Rattle.std.proofs.Common.{◌≡◌, ◌++◌, length}
use Rattle.jam_scan.specs.IncludeLines.{includes_of}
use Rattle.jam_scan.proofs.scan.includes.Given as goal

-- what was found, and what the rest includes, is what the file includes
abbrev pub invariant-loop-end : goal.invariant-loop-end
invariant-loop-end l = l.found ++ includes_of l.rest ≡ includes_of l.bytes

abbrev pub decreases-loop-end : goal.decreases-loop-end
decreases-loop-end l = length l.rest
