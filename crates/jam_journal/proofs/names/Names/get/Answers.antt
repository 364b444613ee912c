use Rattle.std.proofs.Common.{Some, None, sym, ap, ◌∙◌}
use Rattle.std.specs.FinMap as map
use Rattle.jam_journal.specs.Slots.{slot_value}
use Rattle.jam_journal.proofs.SlotsActLikeMapEntries.{found_at}
use Rattle.jam_journal.proofs.names.Names.get.Goals as goal

pub returns-in-Some : goal.returns-in-Some
returns-in-Some g c =
    let name = c.args.name.now in
    let place = c.in-Some.place in
    c.value_of.ensures ∙ ap (λ slots. slot_value slots place) c.as_slice.ensures.value
    ∙ sym (found_at c.self.inside.slots.items c.self.inside.others c.self.invariant name (Some place) (sym c.slot_of.ensures ∙ c.in-Some.is))
    ∙ ap (λ m. map.get m name) c.self.view_is

pub returns-in-None : goal.returns-in-None
returns-in-None g c =
    let name = c.args.name.now in
    c.get.ensures
    ∙ sym (found_at c.self.inside.slots.items c.self.inside.others c.self.invariant name None (sym c.slot_of.ensures ∙ c.in-None.is))
    ∙ ap (λ m. map.get m name) c.self.view_is
