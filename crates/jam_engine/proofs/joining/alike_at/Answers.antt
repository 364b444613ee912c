use Rattle.std.proofs.Common.{get_or, sym, ◌∙◌}
use Rattle.jam_engine.proofs.AlikeFound.{same_get, alike_here, alike_later}
use Rattle.jam_engine.proofs.joining.alike_at.Goals as goal

pub returns-then-are_alike : goal.returns-then-are_alike
returns-then-are_alike c =
    let places = c.args.places.now in
    let i = c.loop-place.place-index in
    let low = c.loop-place-test.true in
    alike_here c.args.acts.now places c.args.act.now c.index-acts-place.result i (get_or places i 0) low (same_get places i 0 low) (c.requires i 0 low) c.index-acts-place.is c.loop-place.invariant (sym c.are_alike.ensures ∙ c.if-are_alike.true)

pub loop-place-preserved : goal.loop-place-preserved
loop-place-preserved c =
    let places = c.args.places.now in
    let i = c.loop-place.place-index in
    let low = c.loop-place-test.true in
    alike_later c.args.acts.now places c.args.act.now c.index-acts-place.result i (get_or places i 0) low (same_get places i 0 low) (c.requires i 0 low) c.index-acts-place.is c.loop-place.invariant (sym c.are_alike.ensures ∙ c.if-are_alike.false)
