use Rattle.std.proofs.Common.{map, sym, ◌∙◌, ap}
use Rattle.jam_expand.specs.Words.{too_deep}
use Rattle.jam_expand.specs.Shown.{shown}
use Rattle.jam_expand.proofs.PiecesExpandOneByOne.{deep_part, flat_part, no_part, deep_zero, deep_more}
use Rattle.jam_expand.proofs.PlainWordsExpandToThemselves.{plain_depth}
use Rattle.jam_expand.proofs.expand.+depth.Goals.{is_deeper-in-Part+in_ok-is_too_deep+else-branch, is_deeper-in_default}
use Rattle.jam_expand.proofs.expand.+depth.Goals as goal

pub is_deeper-returns-then-branch : goal.is_deeper-returns-then-branch
is_deeper-returns-then-branch t c =
    sym (deep_part (too_deep c.args.levels) c.args.word.now c.as_slice-piece-items.result.now c.loop-piece.piece-index _ c.in-Part.inside.now
    (ap (map shown) c.as_slice-piece-items.ensures.value ∙ c.in_ok-pieces.ensures) c.loop-piece-test.true (ap shown c.in-Part.is) c.loop-piece.invariant (sym c.in_ok-is_too_deep.ensures ∙ c.if-branch.true))

pub is_deeper-loop-piece-preserved : goal.is_deeper-loop-piece-preserved
is_deeper-loop-piece-preserved t c = elim c.match-piece.branch [
  | is_deeper-in-Part+in_ok-is_too_deep+else-branch w ↦
      flat_part (too_deep c.args.levels) c.args.word.now c.as_slice-piece-items.result.now c.loop-piece.piece-index _ w.in-Part.inside.now
      (ap (map shown) c.as_slice-piece-items.ensures.value ∙ c.in_ok-pieces.ensures) c.loop-piece-test.true (ap shown w.in-Part.is) c.loop-piece.invariant (sym w.in_ok-is_too_deep.ensures ∙ w.if-branch.false)
  | is_deeper-in_default w ↦
      no_part (too_deep c.args.levels) c.args.word.now c.as_slice-piece-items.result.now c.loop-piece.piece-index _ w.in_default.field-0.now
      (ap (map shown) c.as_slice-piece-items.ensures.value ∙ c.in_ok-pieces.ensures) c.loop-piece-test.true (ap shown w.in_default.is) c.loop-piece.invariant
]

pub is_too_deep-returns-then-levels-eq0 : goal.is_too_deep-returns-then-levels-eq0
is_too_deep-returns-then-levels-eq0 t c = sym (deep_zero c.args.levels c.args.inside.now c.if-levels-eq0.true)

pub is_too_deep-returns : goal.is_too_deep-returns
is_too_deep-returns t c = rw (deep_more c.args.levels c.args.inside.now c.if-levels-eq0.false) c.is_deeper.ensures

pub is_deeper-returns-then-is_plain : goal.is_deeper-returns-then-is_plain
is_deeper-returns-then-is_plain t c = sym (plain_depth c.args.levels c.args.word.now (c.is_plain.ensures c.if-is_plain.true))
