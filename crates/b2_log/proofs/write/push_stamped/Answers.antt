use Rattle.b2_log.proofs.ElementsFollowTheirCount.{written_more, written_all}
use Rattle.b2_log.proofs.write.push_stamped.Goals as goal

pub loop-file-preserved : goal.loop-file-preserved
loop-file-preserved c = written_more _ _ _ _ _ _ _ _ c.loop-file-test.true c.file-item.is c.loop-file.invariant c.in_ok-push_file.ensures.pushes c.in_ok-push_file.ensures.held

pub returns-clause-held : goal.returns-clause-held
returns-clause-held c = written_all _ _ _ _ _ _ c.loop-file-test.false c.in_ok-push_number.ensures.held c.loop-file.invariant
