use Rattle.b2_log.proofs.ElementsFollowTheirCount.{written_more, written_all}
use Rattle.b2_log.proofs.write.push_includes.Goals as goal

pub loop-include-preserved : goal.loop-include-preserved
loop-include-preserved c = written_more _ _ _ _ _ _ _ _ c.loop-include-test.true c.include-item.is c.loop-include.invariant c.in_ok-push_include.ensures.pushes c.in_ok-push_include.ensures.held

pub returns-clause-held : goal.returns-clause-held
returns-clause-held c = written_all _ _ _ _ _ _ c.loop-include-test.false c.in_ok-push_number.ensures.held c.loop-include.invariant
