use Rattle.std.proofs.Common.{arith}
use Rattle.std.proofs.lemmas.Slice.Zip.{length-zip}
use Rattle.b2_log.proofs.write.pair_count.Goals as goal

pub returns-then-digests-files-clause-count : goal.returns-then-digests-files-clause-count
returns-then-digests-files-clause-count c = omega (arith, length-zip c.args.files.now c.args.digests.now)

pub returns-else-digests-files-clause-count : goal.returns-else-digests-files-clause-count
returns-else-digests-files-clause-count c = omega (arith, length-zip c.args.files.now c.args.digests.now)
