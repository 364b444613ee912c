use Rattle.std.proofs.Common.{Some, is_some, cond, sym, ap, ◌∙◌}
use Rattle.std.specs.Option.{option_copied}
use Rattle.jam_journal.specs.Slots.{slot_value, with_value}
use Rattle.jam_journal.proofs.slots.replace.Goals as goal

pub returns-in-Some-clause-before : goal.returns-in-Some-clause-before
returns-in-Some-clause-before g c = c.set.ensures.before

pub returns-in-Some-clause-after : goal.returns-in-Some-clause-after
returns-in-Some-clause-after g c =
    let old = c.args.slots.now.items in
    let is = ap (λ slots. slot_value slots c.args.place) (sym c.as_slice.ensures.value) ∙ sym c.value_of.ensures ∙ ap option_copied c.in-Some.is in
    c.set.ensures.after ∙ sym (ap (λ o. cond (is_some o) (with_value old c.args.place (Some c.args.value)) old) is)

pub returns-in-None-clause-before : goal.returns-in-None-clause-before
returns-in-None-clause-before g c = sym (ap (λ slots. slot_value slots c.args.place) (sym c.as_slice.ensures.value) ∙ sym c.value_of.ensures ∙ ap option_copied c.in-None.is)

pub returns-in-None-clause-after : goal.returns-in-None-clause-after
returns-in-None-clause-after g c =
    let old = c.args.slots.now.items in
    let is = ap (λ slots. slot_value slots c.args.place) (sym c.as_slice.ensures.value) ∙ sym c.value_of.ensures ∙ ap option_copied c.in-None.is in
    sym (ap (λ o. cond (is_some o) (with_value old c.args.place (Some c.args.value)) old) is)
