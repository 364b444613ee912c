use Rattle.std.proofs.Common.{◌<◌, ◌≤◌, sym, ap, subst, ◌∙◌}
use Rattle.jam_journal.specs.Slots.{with_value}
use Rattle.jam_journal.proofs.SlotsActLikeMapEntries.{value_index, value_outside, set_is, set_outside}
use Rattle.jam_journal.proofs.slots.set.Goals as goal

pub returns-then-place-len-clause-before : goal.returns-then-place-len-clause-before
returns-then-place-len-clause-before g c = c.replace.ensures.value ∙ sym (value_index c.args.slots.now.items c.args.place c.index_mut.result.now (subst (λ n. c.args.place < n) (c.len.ensures ∙ c.args.slots.now.ok.0) c.if-place-len.true) c.index_mut.ensures.value)

pub returns-then-place-len-clause-after : goal.returns-then-place-len-clause-after
returns-then-place-len-clause-after g c =
    set_is c.args.slots.now.items c.args.place c.replace.new.dest c.index_mut.result.now (subst (λ n. c.args.place < n) (c.len.ensures ∙ c.args.slots.now.ok.0) c.if-place-len.true) c.index_mut.ensures.value
    ∙ ap (with_value c.args.slots.now.items c.args.place) c.replace.ensures.after

pub returns-else-place-len-clause-before : goal.returns-else-place-len-clause-before
returns-else-place-len-clause-before g c = sym (value_outside c.args.slots.now.items c.args.place (subst (λ n. n ≤ c.args.place) (c.len.ensures ∙ c.args.slots.now.ok.0) c.if-place-len.false))

pub returns-else-place-len-clause-after : goal.returns-else-place-len-clause-after
returns-else-place-len-clause-after g c = sym (set_outside c.args.slots.now.items c.args.place c.args.value (subst (λ n. n ≤ c.args.place) (c.len.ensures ∙ c.args.slots.now.ok.0) c.if-place-len.false))
