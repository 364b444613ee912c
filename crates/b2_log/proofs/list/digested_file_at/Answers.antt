use Rattle.b2_log.proofs.RefusalsAreHandedOn.{handed_on}
use Rattle.b2_log.proofs.JoinedPartsHaveOneReading.{digested_digestless}
use Rattle.b2_log.proofs.list.digested_file_at.Goals as goal

pub returns-in_err-digest-clause-refused : goal.returns-in_err-digest-clause-refused
returns-in_err-digest-clause-refused c = λ e. digested_digestless _ _ _ c.in_ok-path.ensures.found (c.in_err-digest.ensures.refused (handed_on _ _ c.from_residual-in_err-digest.ensures.1 e))
