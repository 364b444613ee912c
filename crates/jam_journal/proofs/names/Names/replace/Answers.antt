use Rattle.std.proofs.Common.{Some, None, sym, ap, subst, ◌∙◌}
use Rattle.std.specs.FinMap as map
use Rattle.jam_journal.specs.Tables.{back_name}
use Rattle.jam_journal.specs.Slots.{with_slots, AreSlots, AreApart}
use Rattle.jam_journal.proofs.SlotsActLikeMapEntries.{found_at, back_slots, back_placed, apart_back, back_unplaced}
use Rattle.jam_journal.proofs.names.Names.replace.Goals as goal

pub invariant_of-self : goal.invariant_of-self
invariant_of-self g c = record {
  slots = subst (AreSlots 0) (sym c.replace.ensures.after) (back_slots 0 c.self.inside.slots.items c.in-Some.place (Some c.args.value) c.self.invariant.slots);
  others = c.self.invariant.others;
}

pub invariant_of-self-in-None : goal.invariant_of-self-in-None
invariant_of-self-in-None g c =
    let slots = c.self.inside.slots.items in
    let others = c.self.inside.others in
    let name = c.args.name.now in
    let none = sym c.slot_of.ensures ∙ c.in-None.is in
    subst (AreApart slots) (sym c.replace-in-None.ensures.after) (apart_back slots others c.self.invariant name none (Some c.args.value))

pub returns-in-Some-clause-before : goal.returns-in-Some-clause-before
returns-in-Some-clause-before g c =
    let slots = c.self.inside.slots.items in
    let others = c.self.inside.others in
    let name = c.args.name.now in
    let is = sym c.slot_of.ensures ∙ c.in-Some.is in
    c.replace.ensures.before
    ∙ sym (found_at slots others c.self.invariant name (Some c.in-Some.place) is)
    ∙ ap (λ m. map.get m name) c.self.view_is

pub returns-in-Some-clause-after : goal.returns-in-Some-clause-after
returns-in-Some-clause-after g c =
    let slots = c.self.inside.slots.items in
    let others = c.self.inside.others in
    let name = c.args.name.now in
    let is = sym c.slot_of.ensures ∙ c.in-Some.is in
    ap (λ slots. with_slots 0 slots others) c.replace.ensures.after
    ∙ back_placed slots others c.self.invariant name c.in-Some.place (Some c.args.value) is
    ∙ ap (λ m. back_name m name (Some c.args.value)) c.self.view_is

pub returns-in-None-clause-before : goal.returns-in-None-clause-before
returns-in-None-clause-before g c =
    let slots = c.self.inside.slots.items in
    let others = c.self.inside.others in
    let name = c.args.name.now in
    let none = sym c.slot_of.ensures ∙ c.in-None.is in
    c.replace-in-None.ensures.before
    ∙ sym (found_at slots others c.self.invariant name None none)
    ∙ ap (λ m. map.get m name) c.self.view_is

pub returns-in-None-clause-after : goal.returns-in-None-clause-after
returns-in-None-clause-after g c =
    let slots = c.self.inside.slots.items in
    let others = c.self.inside.others in
    let name = c.args.name.now in
    let none = sym c.slot_of.ensures ∙ c.in-None.is in
    ap (with_slots 0 slots) c.replace-in-None.ensures.after
    ∙ back_unplaced slots others c.self.invariant name none (Some c.args.value)
    ∙ ap (λ m. back_name m name (Some c.args.value)) c.self.view_is
