use Rattle.std.proofs.Common.{◌≡◌, reverse, vec_len}
use Rattle.jam_journal.specs.Lists.{undone}
use Rattle.jam_journal.proofs.past_lists.change.undo.Given as goal

abbrev pub invariant-loop-change : goal.invariant-loop-change
invariant-loop-change l = undone (reverse l.changes.items) l.table ≡ undone (reverse l.fn.changes.items) l.fn.table

abbrev pub decreases-loop-change : goal.decreases-loop-change
decreases-loop-change l = vec_len l.changes
