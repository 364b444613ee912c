use Rattle.std.proofs.Common.{length}
use Rattle.jam_journal.proofs.slots.+add_entries.Given as goal

abbrev pub decreases-add_entries : goal.decreases-add_entries
decreases-add_entries g l = length l.slots.now
