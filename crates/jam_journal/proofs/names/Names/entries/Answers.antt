use Rattle.std.proofs.Common.{ap, ◌∙◌}
use Rattle.std.specs.FinMap as map
use Rattle.jam_journal.specs.Slots.{with_entries}
use Rattle.jam_journal.proofs.SlotsActLikeMapEntries.{entries_here}
use Rattle.jam_journal.proofs.names.Names.entries.Goals as goal

pub returns : goal.returns
returns g c =
    let slots = c.self.inside.slots.items in
    c.in_ok-add_entries.ensures
    ∙ (λ i. with_entries (c.as_slice.ensures.value i) (c.in_ok-row.ensures i))
    ∙ entries_here 0 slots c.self.invariant.slots c.self.inside.others c.self.invariant.others
    ∙ ap map.entries c.self.view_is
