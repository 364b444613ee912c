use Rattle.b2_log.proofs.RefusalsAreHandedOn.{handed_on}
use Rattle.b2_log.proofs.JoinedPartsHaveOneReading.{include_markless, include_nameless, include_found}
use Rattle.b2_log.proofs.list.include_at.Goals as goal

pub returns-in_default-clause-refused : goal.returns-in_default-clause-refused
returns-in_default-clause-refused c = λ _. include_markless _ c.in_default.ensures

pub returns-in_err-name-clause-refused : goal.returns-in_err-name-clause-refused
returns-in_err-name-clause-refused c = λ e. include_nameless _ _ _ c.in-Some.ensures (c.in_err-name.ensures.refused (handed_on _ _ c.from_residual.ensures.1 e))

pub returns-clause-found : goal.returns-clause-found
returns-clause-found c = include_found _ _ _ _ _ c.in-Some.ensures c.in_ok-name.ensures.found
