use Rattle.std.proofs.Common.{map, ap, ◌∙◌}
use Rattle.jam_expand.specs.Shown.{shown}
use Rattle.jam_expand.proofs.PiecesExpandOneByOne.{held_no_zero}
use Rattle.jam_expand.proofs.WordsAreReadOnce.{own_more, own_all}
use Rattle.jam_expand.proofs.word.own_pieces.Goals as goal

pub owned-requires : goal.owned-requires
owned-requires c =
    held_no_zero c.args.word.now c.as_slice-piece-items.result.now c.loop-piece.piece-index _ c.requires
    (ap (map shown) c.as_slice-piece-items.ensures.value ∙ c.in_ok-pieces.ensures) c.loop-piece-test.true

pub loop-piece-preserved : goal.loop-piece-preserved
loop-piece-preserved c =
    rw c.in_ok-push.ensures.items
    (own_more c.args.word.now c.as_slice-piece-items.result.now c.loop-piece.made.items c.loop-piece.piece-index _ c.in_ok-own.own
    (ap (map shown) c.as_slice-piece-items.ensures.value ∙ c.in_ok-pieces.ensures) c.loop-piece-test.true c.loop-piece.invariant c.in_ok-own.ensures)

pub returns : goal.returns
returns c =
    own_all c.args.word.now c.as_slice-piece-items.result.now c.loop-piece.made.items c.loop-piece.piece-index
    (ap (map shown) c.as_slice-piece-items.ensures.value ∙ c.in_ok-pieces.ensures) c.loop-piece-test.false c.loop-piece.invariant
