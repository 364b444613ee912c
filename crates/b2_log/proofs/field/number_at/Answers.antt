use Rattle.b2_log.proofs.RefusalsAreHandedOn.{handed_on}
use Rattle.b2_log.proofs.JoinedPartsHaveOneReading.{number_refused, number_untold}
use Rattle.b2_log.proofs.field.number_at.Goals as goal

pub returns-in_err-text-clause-refused : goal.returns-in_err-text-clause-refused
returns-in_err-text-clause-refused c = λ e. number_untold _ (c.in_err-text.ensures.refused (handed_on _ _ c.from_residual.ensures.1 e))

pub returns-clause-refused : goal.returns-clause-refused
returns-clause-refused c = λ e. number_refused _ _ _ c.in_ok-text.ensures.found.split (rw c.as_str.ensures.value at c.in-None.ensures)
