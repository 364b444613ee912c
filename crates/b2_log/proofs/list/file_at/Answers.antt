use Rattle.b2_log.proofs.RefusalsAreHandedOn.{handed_on}
use Rattle.b2_log.proofs.JoinedPartsHaveOneReading.{file_stampless}
use Rattle.b2_log.proofs.list.file_at.Goals as goal

pub returns-in_err-stamp-clause-refused : goal.returns-in_err-stamp-clause-refused
returns-in_err-stamp-clause-refused c = λ e. file_stampless _ _ _ c.in_ok-path.ensures.found (c.in_err-stamp.ensures.refused (handed_on _ _ c.from_residual-in_err-stamp.ensures.1 e))
