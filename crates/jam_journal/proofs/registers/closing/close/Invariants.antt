use Rattle.std.proofs.Common.{◌≡◌, reverse, vec_len}
use Rattle.jam_journal.specs.Stacks.{closed}
use Rattle.jam_journal.proofs.registers.closing.close.Given as goal

abbrev pub invariant-loop-entry : goal.invariant-loop-entry
invariant-loop-entry l = closed (reverse l.entries.items) l.registers ≡ closed (reverse l.fn.entries.items) l.fn.registers

abbrev pub decreases-loop-entry : goal.decreases-loop-entry
decreases-loop-entry l = vec_len l.entries
