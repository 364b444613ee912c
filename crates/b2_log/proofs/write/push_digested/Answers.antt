use Rattle.b2_log.proofs.ElementsFollowTheirCount.{written_start, written_more, written_whole, written_all}
use Rattle.b2_log.proofs.FilesAndDigestsPairUp.{pair_at, named_files}
use Rattle.b2_log.proofs.write.push_digested.Goals as goal

pub loop-place-init : goal.loop-place-init
loop-place-init c = written_start _ _ _ _ _ _ c.in_ok-push_number.ensures.pushes c.pair_count-count.ensures.count

pub loop-place-preserved : goal.loop-place-preserved
loop-place-preserved c =
    let lt = rw c.pair_count-count.ensures.count at c.loop-place-test.true in
    written_more _ _ _ _ _ _ _ _ lt (pair_at _ _ _ _ _ lt c.index-files-place.is c.index-digests-place.is) c.loop-place.invariant c.in_ok-push_digested_file.ensures.pushes c.in_ok-push_digested_file.ensures.held

pub returns-clause-pushes : goal.returns-clause-pushes
returns-clause-pushes c = written_whole _ _ _ _ _ _ (rw c.pair_count-count.ensures.count at c.loop-place-test.false) c.loop-place.invariant

pub returns-clause-held : goal.returns-clause-held
returns-clause-held c = λ e. named_files _ _ (written_all _ _ _ _ _ _ (rw c.pair_count-count.ensures.count at c.loop-place-test.false) (rw c.pair_count-count.ensures.count at c.in_ok-push_number.ensures.held) c.loop-place.invariant) e
