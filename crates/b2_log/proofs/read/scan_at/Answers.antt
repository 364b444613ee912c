use Rattle.b2_log.proofs.RefusalsAreHandedOn.{handed_on}
use Rattle.b2_log.proofs.LineFieldsHaveOneReading.{scan_stampless, scan_includeless}
use Rattle.b2_log.proofs.read.scan_at.Goals as goal

pub returns-in_err-stamp-clause-refused : goal.returns-in_err-stamp-clause-refused
returns-in_err-stamp-clause-refused c = λ e. scan_stampless _ _ _ c.in_ok-path.ensures.found (c.in_err-stamp.ensures.refused (handed_on _ _ c.from_residual-in_err-stamp.ensures.1 e))

pub returns-in_err-includes-clause-refused : goal.returns-in_err-includes-clause-refused
returns-in_err-includes-clause-refused c = λ e. scan_includeless _ _ _ _ _ c.in_ok-path.ensures.found c.in_ok-stamp.ensures.found (c.in_err-includes.ensures.refused (handed_on _ _ c.from_residual-in_err-includes.ensures.1 e))
