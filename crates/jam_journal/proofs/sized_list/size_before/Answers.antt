use Rattle.jam_journal.proofs.CuttingSubtractsTheSize.{cut}
use Rattle.jam_journal.proofs.sized_list.size_before.Goals as goal

pub overflow_sub-result : goal.overflow_sub-result
overflow_sub-result c = (cut c.args.texts.now c.in-Some.rest.now c.args.count c.args.whole c.size_with-2.result c.requires c.if-whole-eq18446744073709551615.false c.in-Some.ensures.cases.2 c.size_with-2.ensures).0

pub returns : goal.returns
returns c = (cut c.args.texts.now c.in-Some.rest.now c.args.count c.args.whole c.size_with-2.result c.requires c.if-whole-eq18446744073709551615.false c.in-Some.ensures.cases.2 c.size_with-2.ensures).1
