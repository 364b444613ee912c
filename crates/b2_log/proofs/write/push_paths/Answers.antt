use Rattle.b2_log.proofs.ElementsFollowTheirCount.{written_more, written_all}
use Rattle.b2_log.proofs.write.push_paths.Goals as goal

pub loop-path-preserved : goal.loop-path-preserved
loop-path-preserved c = written_more _ _ _ _ _ _ _ _ c.loop-path-test.true c.path-item.is c.loop-path.invariant c.in_ok-push_path.ensures.pushes c.in_ok-push_path.ensures.held

pub returns-clause-held : goal.returns-clause-held
returns-clause-held c = written_all _ _ _ _ _ _ c.loop-path-test.false c.in_ok-push_number.ensures.held c.loop-path.invariant
