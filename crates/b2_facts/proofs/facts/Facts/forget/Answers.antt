use Rattle.b2_facts.proofs.LooksAreKept.{forget_about, forget_true}
use Rattle.b2_facts.proofs.facts.Facts.forget.Goals as goal

pub returns-clause-about : goal.returns-clause-about
returns-clause-about c = λ steps roots about. forget_about steps roots c.args.self.now c.clear.new.self c.args.number c.requires.number c.requires.unread c.clear.ensures about

pub returns-clause-told : goal.returns-clause-told
returns-clause-told c = λ b now holds. forget_true b now c.args.self.now c.clear.new.self c.args.number c.requires.number c.clear.ensures holds
