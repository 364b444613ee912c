use Rattle.std.proofs.Common.{take, map, subst, sym, ◌++◌}
use Rattle.jam_expand.specs.Glue.{IsGlued}
use Rattle.jam_expand.specs.Modifiers.{changed, glued_text}
use Rattle.jam_expand.proofs.GlueStandsBetweenTexts.{glue_first, glue_next}
use Rattle.jam_expand.proofs.glue.glue_texts.Goals.{then-place-gt0+in_ok-append, else-place-gt0}
use Rattle.jam_expand.proofs.glue.glue_texts.Goals as goal

pub loop-place-preserved : goal.loop-place-preserved
loop-place-preserved c =
    let glue = c.args.glue.now in
    let so_far = glued_text glue (map (changed c.args.modifiers.now) (take c.loop-place.place c.args.texts.now)) in
    let after = c.append-in-loop-place.new.self in
    elim c.if-place-gt0.branch [
      | then-place-gt0+in_ok-append w ↦
          subst (IsGlued after) (glue_next glue c.args.modifiers.now c.args.texts.now c.loop-place.place c.index-texts-place.result c.in_ok-changed.field-0 w.if-place-gt0.true c.loop-place-test.true c.index-texts-place.is c.in_ok-changed.ensures)
          (c.in_ok-append-2.ensures (so_far ++ glue) (subst (λ held. IsGlued held (so_far ++ glue)) (sym w.held-is) (w.in_ok-append.ensures so_far c.loop-place.invariant)))
      | else-place-gt0 w ↦
          subst (IsGlued after) (glue_first glue c.args.modifiers.now c.args.texts.now c.loop-place.place c.index-texts-place.result c.in_ok-changed.field-0 w.if-place-gt0.false c.loop-place-test.true c.index-texts-place.is c.in_ok-changed.ensures)
          (c.in_ok-append-2.ensures so_far (subst (λ held. IsGlued held so_far) (sym w.held-is) c.loop-place.invariant))
    ]
