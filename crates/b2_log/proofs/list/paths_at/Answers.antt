use Rattle.b2_log.specs.Good.{IsPath}
use Rattle.b2_log.proofs.RefusalsAreHandedOn.{handed_on}
use Rattle.b2_log.proofs.JoinedPartsHaveOneReading.{field_is_free, list_ends, read_pushed}
use Rattle.b2_log.proofs.list.paths_at.Goals as goal

pub returns-in_err-path-clause-refused : goal.returns-in_err-path-clause-refused
returns-in_err-path-clause-refused c = λ e. list_ends _ _ (field_is_free IsPath) _ _ _ _ _ _ c.in_ok-count.ensures.found c.loop.invariant c.loop-test.true (c.in_err-path.ensures.refused (handed_on _ _ c.from_residual-in_err-path.ensures.1 e))

pub loop-preserved : goal.loop-preserved
loop-preserved c = read_pushed _ _ _ _ _ _ _ _ _ c.loop.invariant c.in_ok-path.ensures.found c.in_ok-push.ensures.ok
