use Rattle.std.proofs.Common.{List, None, refl, sym, ap, subst, ◌∙◌}
use Rattle.jam_journal.specs.declared.slots.Slot.{Slot}
use Rattle.jam_journal.specs.Slots.{fixed_name, IsGrown}
use Rattle.jam_journal.proofs.SlotsActLikeMapEntries.{fixed_is, grown_none, grown_more}
use Rattle.jam_journal.proofs.slots.add_vacant.Goals as goal

pub returns-in_err-key-clause-grown : goal.returns-in_err-key-clause-grown
returns-in_err-key-clause-grown g c = grown_none c.args.slots.now.items c.requires.slots

pub returns-in_err-push-clause-grown : goal.returns-in_err-push-clause-grown
returns-in_err-push-clause-grown g c = subst (IsGrown c.args.slots.now.items) (sym {A = List (Slot g.row.V.Denot)} c.in_err-push.ensures.items) (grown_none c.args.slots.now.items c.requires.slots)

pub returns-clause-grown : goal.returns-clause-grown
returns-clause-grown g c =
    let old = c.args.slots.now in
    subst (IsGrown old.items) (sym {A = List (Slot g.row.V.Denot)} c.in_ok-push.ensures.items)
    (grown_more old.items (record { key = c.in_ok-key.key; value = None }) c.requires.slots c.requires.room
    (c.in_ok-key.ensures.ok ∙ c.fixed_name.ensures ∙ ap fixed_name (c.len.ensures ∙ old.ok.0) ∙ fixed_is _ c.requires.room) refl)
