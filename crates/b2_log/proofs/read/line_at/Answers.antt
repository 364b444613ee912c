use Rattle.b2_log.proofs.RefusalsAreHandedOn.{handed_on}
use Rattle.b2_log.proofs.LinesHaveOneReading.{line_tagless, line_fieldless, line_unended, line_found}
use Rattle.b2_log.proofs.read.line_at.Goals as goal

pub returns-in_default-clause-refused : goal.returns-in_default-clause-refused
returns-in_default-clause-refused c = λ _. line_tagless _ c.in_default.ensures

pub returns-in_err-line-clause-refused : goal.returns-in_err-line-clause-refused
returns-in_err-line-clause-refused c = λ e. line_fieldless _ _ _ c.in-Some.ensures (c.in_err-line.ensures.refused (handed_on _ _ c.from_residual.ensures.1 e))

pub returns-in_default-after_line-clause-refused : goal.returns-in_default-after_line-clause-refused
returns-in_default-after_line-clause-refused c = λ _. line_unended _ _ _ _ _ c.in-Some.ensures c.in_ok-line.ensures.found c.in_default-after_line.ensures

pub returns-clause-found : goal.returns-clause-found
returns-clause-found c = line_found _ _ _ _ _ _ c.in-Some.ensures c.in_ok-line.ensures.found c.in-Some-after_line.ensures
