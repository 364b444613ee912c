use Rattle.b2_log.proofs.RefusalsAreHandedOn.{handed_on}
use Rattle.b2_log.proofs.OrderedNeighboursAreEnough.{failed}
use Rattle.b2_log.proofs.DigestsAreTexts.{digest_untold, digest_refused}
use Rattle.b2_log.proofs.field.digest_at.Goals as goal

pub returns-in_err-text-clause-refused : goal.returns-in_err-text-clause-refused
returns-in_err-text-clause-refused c = λ e. digest_untold _ (c.in_err-text.ensures.refused (handed_on _ _ c.from_residual.ensures.1 e))

pub returns-then-not-is_digest-clause-refused : goal.returns-then-not-is_digest-clause-refused
returns-then-not-is_digest-clause-refused c = λ _. digest_refused _ _ _ c.in_ok-text.ensures.found.split (failed _ c.if-not-is_digest.true (rw c.as_str.ensures.value at c.is_digest.ensures.1))
