use Rattle.std.proofs.Common.{Ok, sym, ap}
use Rattle.b2_facts.proofs.list_table.ListTable.number_of.Goals as goal

pub returns-in-Some-clause-once : goal.returns-in-Some-clause-once
returns-in-Some-clause-once c = λ n at. ap Ok (sym (c.in-Some.ensures.only n at))

pub returns-in-None-clause-once : goal.returns-in-None-clause-once
returns-in-None-clause-once c = λ n at. absurd (c.in-None.ensures n at)

pub returns-in-None-clause-stays : goal.returns-in-None-clause-stays
returns-in-None-clause-stays c = λ n at. absurd (c.in-None.ensures n at)
