use Rattle.b2_log.proofs.RefusalsAreHandedOn.{handed_on}
use Rattle.b2_log.proofs.JoinedPartsHaveOneReading.{digested_is_free, list_ends}
use Rattle.b2_log.proofs.FilesAndDigestsPairUp.{both_more}
use Rattle.b2_log.proofs.list.digested_at.Goals as goal

pub returns-in_err-file-clause-refused : goal.returns-in_err-file-clause-refused
returns-in_err-file-clause-refused c = λ e. list_ends _ _ digested_is_free _ _ _ _ _ _ c.in_ok-count.ensures.found c.loop.invariant.read c.loop-test.true (c.in_err-file.ensures.refused (handed_on _ _ c.from_residual-in_err-file.ensures.1 e))

pub loop-preserved : goal.loop-preserved
loop-preserved c = both_more _ _ _ _ _ _ _ _ _ _ c.loop.invariant c.in_ok-file.ensures.found c.in_ok-push_digested.ensures.files c.in_ok-push_digested.ensures.digests
