use Rattle.std.proofs.Common.{◌∙◌}
use Rattle.b2_log.proofs.RefusalsAreHandedOn.{handed_on}
use Rattle.b2_log.proofs.JoinedPartsHaveOneReading.{field_refused}
use Rattle.b2_log.proofs.PlainBytesStandAsTheyAre.{plain_field, plain_begins, field_untold}
use Rattle.b2_log.proofs.field.field_at.Goals as goal

pub returns-in_err-text-clause-refused : goal.returns-in_err-text-clause-refused
returns-in_err-text-clause-refused c = λ e. field_refused _ _ _ _ (plain_field _ _ _ _ c.plain_at.ensures.plain c.plain_at.ensures.split c.in-Some.ensures) (c.in_err-text.ensures.refused (handed_on _ _ c.from_residual.ensures.1 e))

pub returns-in-Some-clause-found : goal.returns-in-Some-clause-found
returns-in-Some-clause-found c = plain_begins _ _ _ _ _ c.plain_at.ensures.plain c.plain_at.ensures.split c.in-Some.ensures c.in_ok-text.ensures.found.0 c.in_ok-text.ensures.found.1

pub returns-in_err-text-2-clause-refused : goal.returns-in_err-text-2-clause-refused
returns-in_err-text-2-clause-refused c = λ e. field_untold _ _ c.plain_at.ensures.split (c.in_err-text-2.ensures.refused (handed_on _ _ c.from_residual-in_err-text-2.ensures.1 e))

pub returns-in_err-text-3-clause-refused : goal.returns-in_err-text-3-clause-refused
returns-in_err-text-3-clause-refused c = λ e. field_refused _ _ _ _ (c.plain_at.ensures.split ∙ c.in_ok-text-2.ensures.found) (c.in_err-text-3.ensures.refused (handed_on _ _ c.from_residual-in_err-text-3.ensures.1 e))
