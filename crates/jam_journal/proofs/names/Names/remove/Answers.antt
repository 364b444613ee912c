use Rattle.std.proofs.Common.{Some, None, sym, ap, subst, ◌∙◌}
use Rattle.std.specs.FinMap as map
use Rattle.jam_journal.specs.Slots.{with_slots, with_value, AreSlots, AreApart}
use Rattle.jam_journal.proofs.SlotsActLikeMapEntries.{kept, found_at, value_gone, put_placed, apart_put, put_unplaced}
use Rattle.jam_journal.proofs.names.Names.remove.Goals as goal

pub invariant_of-self : goal.invariant_of-self
invariant_of-self g c = record {
  slots = subst (AreSlots 0) (sym c.set.ensures.after) (kept 0 c.self.inside.slots.items c.in-Some.place None c.self.invariant.slots);
  others = c.self.invariant.others;
}

pub invariant_of-self-in-None : goal.invariant_of-self-in-None
invariant_of-self-in-None g c =
    let slots = c.self.inside.slots.items in
    let others = c.self.inside.others in
    let name = c.args.name.now in
    let none = sym c.slot_of.ensures ∙ c.in-None.is in
    subst (AreApart slots) (sym c.remove.ensures.after) (apart_put slots others c.self.invariant name none None)

pub returns-in-Some-clause-before : goal.returns-in-Some-clause-before
returns-in-Some-clause-before g c =
    let slots = c.self.inside.slots.items in
    let others = c.self.inside.others in
    let name = c.args.name.now in
    let is = sym c.slot_of.ensures ∙ c.in-Some.is in
    c.set.ensures.before
    ∙ sym (found_at slots others c.self.invariant name (Some c.in-Some.place) is)
    ∙ ap (λ m. map.get m name) c.self.view_is

pub returns-in-Some-clause-after : goal.returns-in-Some-clause-after
returns-in-Some-clause-after g c =
    let slots = c.self.inside.slots.items in
    let others = c.self.inside.others in
    let name = c.args.name.now in
    let is = sym c.slot_of.ensures ∙ c.in-Some.is in
    let place = c.in-Some.place in
    ap (λ slots. with_slots 0 slots others) c.set.ensures.after
    ∙ put_placed slots (with_value slots place None) others c.self.invariant (kept 0 slots place None c.self.invariant.slots) name place None is (value_gone slots place)
    ∙ ap (λ m. map.remove m name) c.self.view_is

pub returns-in-None-clause-before : goal.returns-in-None-clause-before
returns-in-None-clause-before g c =
    let slots = c.self.inside.slots.items in
    let others = c.self.inside.others in
    let name = c.args.name.now in
    let none = sym c.slot_of.ensures ∙ c.in-None.is in
    c.remove.ensures.before
    ∙ sym (found_at slots others c.self.invariant name None none)
    ∙ ap (λ m. map.get m name) c.self.view_is

pub returns-in-None-clause-after : goal.returns-in-None-clause-after
returns-in-None-clause-after g c =
    let slots = c.self.inside.slots.items in
    let others = c.self.inside.others in
    let name = c.args.name.now in
    let none = sym c.slot_of.ensures ∙ c.in-None.is in
    ap (with_slots 0 slots) c.remove.ensures.after
    ∙ put_unplaced slots others c.self.invariant name none None
    ∙ ap (λ m. map.remove m name) c.self.view_is
