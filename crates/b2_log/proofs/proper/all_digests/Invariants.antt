use Rattle.std.proofs.Common.{take}
use Rattle.std.specs.List.{AllByRecursion}
use Rattle.b2_log.specs.Good.{IsDigest}
use Rattle.b2_log.proofs.proper.all_digests.Given as goal

abbrev pub invariant-loop-digest : goal.invariant-loop-digest
invariant-loop-digest l = AllByRecursion IsDigest (take l.digest-index l.digests)
