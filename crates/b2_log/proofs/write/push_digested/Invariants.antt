use Rattle.std.specs.List.{zip}
use Rattle.b2_log.specs.Lines.{digested}
use Rattle.b2_log.proofs.ElementsFollowTheirCount.{WrittenSo}
use Rattle.b2_log.proofs.FilesAndDigestsPairUp.{IsNamed}
use Rattle.b2_log.proofs.write.push_digested.Given as goal

abbrev pub invariant-loop-place : goal.invariant-loop-place
invariant-loop-place l = WrittenSo digested IsNamed (zip l.files l.digests) l.fn.line.items l.line.items l.place
