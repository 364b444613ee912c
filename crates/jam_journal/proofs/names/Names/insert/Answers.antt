use Rattle.std.proofs.Common.{Some, None, sym, ap, subst, ◌∙◌}
use Rattle.std.specs.FinMap as map
use Rattle.jam_journal.specs.Slots.{with_slots, AreSlots, AreApart}
use Rattle.jam_journal.proofs.SlotsActLikeMapEntries.{placed, kept, found_at, if_err, grown_same, grown_apart, slot_put, apart_put, put_unplaced}
use Rattle.jam_journal.proofs.names.Names.insert.Goals as goal

pub grow-requires-clause-slots : goal.grow-requires-clause-slots
grow-requires-clause-slots g c = c.self.invariant.slots

pub grow-requires-clause-place : goal.grow-requires-clause-place
grow-requires-clause-place g c = (placed c.args.name.now c.in-Some.place (sym c.slot_of.ensures ∙ c.in-Some.is)).1

pub invariant_of-self : goal.invariant_of-self
invariant_of-self g c = grown_apart c.self.inside.slots.items c.grow.new.slots.items c.self.inside.others c.self.invariant c.grow.ensures.grown

pub returns-in_err-grow-in-Some-clause-err : goal.returns-in_err-grow-in-Some-clause-err
returns-in_err-grow-in-Some-clause-err g c =
    if_err c.from_residual.result
    (grown_same c.self.inside.slots.items c.grow.new.slots.items c.self.inside.others c.self.invariant c.grow.ensures.grown ∙ c.self.view_is)

pub invariant_of-self-in-Some : goal.invariant_of-self-in-Some
invariant_of-self-in-Some g c = record {
  slots = subst (AreSlots 0) (sym c.set.ensures.after) (kept 0 c.grow.new.slots.items c.in-Some.place (Some c.args.value) c.grow.ensures.grown.slots);
  others = c.self.invariant.others;
}

pub invariant_of-self-in_err-before-in-None : goal.invariant_of-self-in_err-before-in-None
invariant_of-self-in_err-before-in-None g c = subst (AreApart c.self.inside.slots.items) (sym c.in_err-before-in-None.ensures.err) c.self.invariant

pub returns-in_err-before-in-None-clause-err : goal.returns-in_err-before-in-None-clause-err
returns-in_err-before-in-None-clause-err g c =
    if_err c.from_residual-in_err-before-in-None.result (ap (with_slots 0 c.self.inside.slots.items) c.in_err-before-in-None.ensures.err ∙ c.self.view_is)

pub invariant_of-self-in-None : goal.invariant_of-self-in-None
invariant_of-self-in-None g c =
    let slots = c.self.inside.slots.items in
    let others = c.self.inside.others in
    let name = c.args.name.now in
    let none = sym c.slot_of.ensures ∙ c.in-None.is in
    subst (AreApart slots) (sym c.in_ok-before-in-None.ensures.ok) (apart_put slots others c.self.invariant name none (Some c.args.value))

pub returns-in_ok-grow-in-Some-clause-before : goal.returns-in_ok-grow-in-Some-clause-before
returns-in_ok-grow-in-Some-clause-before g c =
    let slots = c.self.inside.slots.items in
    let others = c.self.inside.others in
    let name = c.args.name.now in
    let is = sym c.slot_of.ensures ∙ c.in-Some.is in
    c.set.ensures.before ∙ c.grow.ensures.grown.values c.in-Some.place
    ∙ sym (found_at slots others c.self.invariant name (Some c.in-Some.place) is)
    ∙ ap (λ m. map.get m name) c.self.view_is

pub returns-in_ok-grow-in-Some-clause-ok : goal.returns-in_ok-grow-in-Some-clause-ok
returns-in_ok-grow-in-Some-clause-ok g c =
    let slots = c.self.inside.slots.items in
    let others = c.self.inside.others in
    let name = c.args.name.now in
    let is = sym c.slot_of.ensures ∙ c.in-Some.is in
    slot_put slots c.grow.new.slots.items c.set.new.slots.items others c.self.invariant c.grow.ensures.grown name c.in-Some.place (Some c.args.value) is
    c.in_ok-grow-in-Some.ensures.there c.set.ensures.after
    ∙ ap (λ m. map.insert m name c.args.value) c.self.view_is

pub returns-in_ok-before-in-None-clause-before : goal.returns-in_ok-before-in-None-clause-before
returns-in_ok-before-in-None-clause-before g c =
    let slots = c.self.inside.slots.items in
    let others = c.self.inside.others in
    let name = c.args.name.now in
    let none = sym c.slot_of.ensures ∙ c.in-None.is in
    c.in_ok-before-in-None.ensures.before
    ∙ sym (found_at slots others c.self.invariant name None none)
    ∙ ap (λ m. map.get m name) c.self.view_is

pub returns-in_ok-before-in-None-clause-ok : goal.returns-in_ok-before-in-None-clause-ok
returns-in_ok-before-in-None-clause-ok g c =
    let slots = c.self.inside.slots.items in
    let others = c.self.inside.others in
    let name = c.args.name.now in
    let none = sym c.slot_of.ensures ∙ c.in-None.is in
    ap (with_slots 0 slots) c.in_ok-before-in-None.ensures.ok
    ∙ put_unplaced slots others c.self.invariant name none (Some c.args.value)
    ∙ ap (λ m. map.insert m name c.args.value) c.self.view_is
