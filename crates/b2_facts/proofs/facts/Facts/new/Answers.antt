use Rattle.std.proofs.Common.{sym, subst}
use Rattle.b2_facts.specs.Facts.{IsAbout}
use Rattle.b2_facts.specs.Truth.{AreTrue}
use Rattle.b2_facts.proofs.FactsAreEntered.{nothing_about, nothing_true}
use Rattle.b2_facts.proofs.facts.Facts.new.Goals as goal

pub returns-clause-about : goal.returns-clause-about
returns-clause-about c = λ steps roots. subst (IsAbout steps roots) (sym c.empty.ensures) (nothing_about steps roots)

pub returns-clause-told : goal.returns-clause-told
returns-clause-told c = λ b now. subst (AreTrue b now) (sym c.empty.ensures) (nothing_true b now)
