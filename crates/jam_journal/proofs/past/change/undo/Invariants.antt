use Rattle.std.proofs.Common.{◌≡◌, reverse, vec_len}
use Rattle.jam_journal.specs.Pasts.{undone}
use Rattle.jam_journal.proofs.past.change.undo.Given as goal

abbrev pub invariant-loop-change : goal.invariant-loop-change
invariant-loop-change g l = undone (reverse l.changes.items) l.table ≡ undone (reverse l.fn.changes.items) l.fn.table

abbrev pub decreases-loop-change : goal.decreases-loop-change
decreases-loop-change g l = vec_len l.changes
