use Rattle.std.proofs.Common.{sym, ap, ◌∙◌}
use Rattle.jam_journal.proofs.SlotsActLikeMapEntries.{value_index, value_outside}
use Rattle.jam_journal.proofs.slots.value_of.Goals as goal

pub returns-then-place-slots : goal.returns-then-place-slots
returns-then-place-slots g c = c.as_ref.ensures.value ∙ ap (λ s. s.value) (sym c.index-slots-place.is) ∙ sym (value_index c.args.slots.now c.args.place c.index-slots-place.result c.if-place-slots.true c.index-slots-place.is)

pub returns-else-place-slots : goal.returns-else-place-slots
returns-else-place-slots g c = sym (value_outside c.args.slots.now c.args.place c.if-place-slots.false)
