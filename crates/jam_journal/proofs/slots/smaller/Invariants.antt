use Rattle.std.proofs.Common.{◌≡◌, ◌+◌, drop}
use Rattle.jam_journal.specs.Slots.{smaller}
use Rattle.jam_journal.specs.Tables.{lent_row}
use Rattle.jam_journal.proofs.slots.smaller.Given as goal

abbrev pub invariant-loop-place : goal.invariant-loop-place
invariant-loop-place g l = smaller l.name (lent_row l.row) ≡ l.place + smaller l.name (lent_row (drop l.place l.row))
