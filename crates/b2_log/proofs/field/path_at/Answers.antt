use Rattle.b2_log.proofs.RefusalsAreHandedOn.{handed_on}
use Rattle.b2_log.proofs.JoinedPartsHaveOneReading.{field_refused}
use Rattle.b2_log.proofs.field.path_at.Goals as goal

pub returns-in_err-path-clause-refused : goal.returns-in_err-path-clause-refused
returns-in_err-path-clause-refused c = λ e. field_refused _ _ _ _ c.in_ok-text.ensures.found.split (c.in_err-path.ensures.refused (handed_on _ _ c.from_residual-in_err-path.ensures.1 e))
