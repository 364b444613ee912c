use Rattle.b2_log.proofs.RefusalsAreHandedOn.{handed_on}
use Rattle.b2_log.proofs.LineFieldsHaveOneReading.{record_outless, record_inless}
use Rattle.b2_log.proofs.read.record_at.Goals as goal

pub returns-in_err-outs-clause-refused : goal.returns-in_err-outs-clause-refused
returns-in_err-outs-clause-refused c = λ e. record_outless _ _ _ c.in_ok-text.ensures.found (c.in_err-outs.ensures.refused (handed_on _ _ c.from_residual-in_err-outs.ensures.1 e))

pub returns-in_err-ins-clause-refused : goal.returns-in_err-ins-clause-refused
returns-in_err-ins-clause-refused c = λ e. record_inless _ _ _ _ _ c.in_ok-text.ensures.found c.in_ok-outs.ensures.found (c.in_err-ins.ensures.refused (handed_on _ _ c.from_residual-in_err-ins.ensures.1 e))
