use Rattle.std.proofs.Common.{arith, ◌+◌, sym, subst, take}
use Rattle.b2_generate.specs.Clear.{AreMarked}
use Rattle.b2_generate.proofs.DatesOrMarksShowClear.{marked_none, marked_further, marked_past, marked_all}
use Rattle.b2_generate.proofs.clear.mark.Goals as goal
use Rattle.b2_generate.proofs.clear.mark.Goals.{then-place-len, else-place-len}

pub loop-place-init : goal.loop-place-init
loop-place-init c = marked_none c.args.marks.now.items

pub loop-place-preserved : goal.loop-place-preserved
loop-place-preserved c =
    let i = c.loop-place.place-index in
    let now = c.loop-place.marks.items in
    let places = c.args.places.now in
    elim c.if-place-len.branch [
      | then-place-len w ↦
          subst (λ m. AreMarked (take (i + 1) places) c.args.marks.now.items m.items) (sym w.marks-is)
          (marked_further places i c.args.marks.now.items now c.loop-place-test.true (omega (arith, w.if-place-len.true, c.len.ensures, c.loop-place.marks.ok.0)) c.loop-place.invariant)
      | else-place-len w ↦
          subst (λ m. AreMarked (take (i + 1) places) c.args.marks.now.items m.items) (sym w.marks-is)
          (marked_past places i c.args.marks.now.items now c.loop-place-test.true (omega (arith, w.if-place-len.false, c.len.ensures, c.loop-place.marks.ok.0)) c.loop-place.invariant)
    ]

pub returns : goal.returns
returns c = marked_all c.args.places.now c.loop-place.place-index c.args.marks.now.items c.loop-place.marks.items c.loop-place-test.false c.loop-place.invariant
