use Rattle.std.specs.Borrow.{Bor}
use Rattle.b2_declared.specs.declared.place.Place.{Place}
use Rattle.b2_references.proofs.LoopsTakeOneMore.{first_here, first_not_here}
use Rattle.b2_references.proofs.lookups.first_of_places.Goals as goal

pub returns-then-not-is_empty : goal.returns-then-not-is_empty
returns-then-not-is_empty c =
    first_here (λ (p : Bor Place). p.now.defaults) c.args.places.now c.loop-place.place-index c.place-item.result c.as_slice-defaults.result.now c.is_empty.result c.loop-place-test.true c.place-item.is c.as_slice-defaults.ensures c.is_empty.ensures
    c.if-not-is_empty.true c.loop-place.invariant

pub loop-place-preserved : goal.loop-place-preserved
loop-place-preserved c =
    first_not_here (λ (p : Bor Place). p.now.defaults) c.args.places.now c.loop-place.place-index c.place-item.result c.as_slice-defaults.result.now c.is_empty.result c.loop-place-test.true c.place-item.is c.as_slice-defaults.ensures c.is_empty.ensures
    c.if-not-is_empty.false c.loop-place.invariant
