use Rattle.std.proofs.Common.{◌≡◌, reverse, vec_len}
use Rattle.jam_journal.specs.Stacks.{left_by}
use Rattle.jam_journal.proofs.registers.closing.close_frame.Given as goal

abbrev pub invariant-loop-entry : goal.invariant-loop-entry
invariant-loop-entry l = left_by (reverse l.entries.items) l.registers ≡ left_by (reverse l.fn.entries.items) l.fn.registers

abbrev pub decreases-loop-entry : goal.decreases-loop-entry
decreases-loop-entry l = vec_len l.entries
