use Rattle.std.proofs.Common.{◌≤◌, string_bytes, vec_len, sym, ap, subst, ◌∙◌}
use Rattle.std.specs.List.{insert}
use Rattle.jam_journal.specs.Tables.{lent_row}
use Rattle.jam_journal.specs.Slots.{smaller, with_entry}
use Rattle.jam_journal.proofs.SlotsActLikeMapEntries.{smaller_within, lent_insert}
use Rattle.jam_journal.proofs.slots.add_entry.Goals as goal

pub insert-requires : goal.insert-requires
insert-requires g c =
    let key = string_bytes c.args.slot.now.key in
    let row = c.args.row.now in
    let is = c.smaller-place.ensures ∙ (λ i. smaller (c.as_str.ensures.value i) (lent_row (c.as_slice.ensures.value i))) in
    subst (λ n. n ≤ vec_len row) (sym is) (subst (λ n. smaller key (lent_row row.items) ≤ n) (sym row.ok.0) (smaller_within key row.items))

pub returns-in_ok-insert : goal.returns-in_ok-insert
returns-in_ok-insert g c =
    let key = string_bytes c.args.slot.now.key in
    let row = c.args.row.now.items in
    let is = c.smaller-place.ensures ∙ (λ i. smaller (c.as_str.ensures.value i) (lent_row (c.as_slice.ensures.value i))) in
    ap lent_row c.in_ok-insert.ensures.items
    ∙ lent_insert row c.smaller-place.result _
    ∙ ap (λ place. insert (lent_row row) place (key, c.in-Some.value)) is
    ∙ sym (ap (λ o. with_entry key o (lent_row row)) c.in-Some.is)
