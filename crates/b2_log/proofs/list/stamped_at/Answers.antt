use Rattle.b2_log.proofs.RefusalsAreHandedOn.{handed_on}
use Rattle.b2_log.proofs.JoinedPartsHaveOneReading.{stamped_is_free, list_ends, read_pushed}
use Rattle.b2_log.proofs.list.stamped_at.Goals as goal

pub returns-in_err-file-clause-refused : goal.returns-in_err-file-clause-refused
returns-in_err-file-clause-refused c = λ e. list_ends _ _ stamped_is_free _ _ _ _ _ _ c.in_ok-count.ensures.found c.loop.invariant c.loop-test.true (c.in_err-file.ensures.refused (handed_on _ _ c.from_residual-in_err-file.ensures.1 e))

pub loop-preserved : goal.loop-preserved
loop-preserved c = read_pushed _ _ _ _ _ _ _ _ _ c.loop.invariant c.in_ok-file.ensures.found c.in_ok-push.ensures.ok
