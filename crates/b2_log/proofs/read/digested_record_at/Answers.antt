use Rattle.b2_log.proofs.RefusalsAreHandedOn.{handed_on}
use Rattle.b2_log.proofs.LineFieldsHaveOneReading.{digested_outless, digested_inless, digested_found}
use Rattle.b2_log.proofs.read.digested_record_at.Goals as goal

pub returns-in_err-outs-clause-refused : goal.returns-in_err-outs-clause-refused
returns-in_err-outs-clause-refused c = λ e. digested_outless _ _ _ c.in_ok-text.ensures.found (c.in_err-outs.ensures.refused (handed_on _ _ c.from_residual-in_err-outs.ensures.1 e))

pub returns-in_err-ins-clause-refused : goal.returns-in_err-ins-clause-refused
returns-in_err-ins-clause-refused c = λ e. digested_inless _ _ _ _ _ c.in_ok-text.ensures.found c.in_ok-outs.ensures.found (c.in_err-ins.ensures.refused (handed_on _ _ c.from_residual-in_err-ins.ensures.1 e))

pub returns-clause-found : goal.returns-clause-found
returns-clause-found c = digested_found _ _ _ _ _ _ _ _ _ c.in_ok-text.ensures.found c.in_ok-outs.ensures.found c.in_ok-outs.ensures.same c.in_ok-ins.ensures.found c.in_ok-ins.ensures.same
