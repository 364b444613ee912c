use Rattle.std.proofs.Common.{string_bytes, arith, sym, ap, ◌∙◌}
use Rattle.std.specs.Ordering.{nat_cmp, is_lt}
use Rattle.std.specs.Cmp.Lexicographic.{slice_cmp}
use Rattle.jam_journal.proofs.SlotsActLikeMapEntries.{stops_at, goes_on, ends_at}
use Rattle.jam_journal.proofs.slots.smaller.Goals as goal

pub returns-then-not-is_smaller : goal.returns-then-not-is_smaller
returns-then-not-is_smaller g c =
    stops_at c.args.name.now c.args.row.now c.loop-place.place c.index-row-place.result c.loop-place-test.true c.index-row-place.is
    (ap (λ t. is_lt (slice_cmp nat_cmp (string_bytes t.0.now) c.args.name.now)) c.index-row-place.is
    ∙ ap (λ key. is_lt (slice_cmp nat_cmp key c.args.name.now)) (sym c.as_str.ensures.value) ∙ sym c.is_smaller.ensures ∙ c.if-not-is_smaller.true)
    c.loop-place.invariant

pub loop-place-preserved : goal.loop-place-preserved
loop-place-preserved g c =
    goes_on c.args.name.now c.args.row.now c.loop-place.place c.index-row-place.result c.loop-place-test.true c.index-row-place.is
    (ap (λ t. is_lt (slice_cmp nat_cmp (string_bytes t.0.now) c.args.name.now)) c.index-row-place.is
    ∙ ap (λ key. is_lt (slice_cmp nat_cmp key c.args.name.now)) (sym c.as_str.ensures.value) ∙ sym c.is_smaller.ensures ∙ c.if-not-is_smaller.false)
    c.loop-place.invariant

pub returns : goal.returns
returns g c =
    let is = ends_at c.args.name.now c.args.row.now c.loop-place.place c.loop-place-test.false c.loop-place.invariant in
    let low = c.loop-place.auto.place-end in
    let high = c.loop-place-test.false in
    omega arith
