use Rattle.jam_journal.proofs.SlotsActLikeMapEntries.{first_apart}
use Rattle.jam_journal.proofs.names.Names.new.Goals as goal

pub invariant_of-result : goal.invariant_of-result
invariant_of-result g c = first_apart c.new.result.items c.new-2.result c.new.ensures.items c.new-2.ensures
