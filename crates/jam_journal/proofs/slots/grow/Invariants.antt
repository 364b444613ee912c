use Rattle.std.proofs.Common.{◌-◌, ◌+◌, length}
use Rattle.jam_journal.specs.Slots.{IsGrown}
use Rattle.jam_journal.proofs.slots.grow.Given as goal

abbrev pub invariant-slots : goal.invariant-slots
invariant-slots g l = IsGrown l.fn.slots.items l.slots.items

abbrev pub decreases-slots : goal.decreases-slots
decreases-slots g l = l.place + 1 - length l.slots.items
