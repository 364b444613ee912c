use Rattle.std.proofs.Common.{◌≡◌, drop, map}
use Rattle.b2_base.specs.Results.{and_then}
use Rattle.jam_expand.specs.Expansions.{elements_at, lists_of}
use Rattle.jam_expand.specs.OwnPieces.{owned}
use Rattle.jam_expand.specs.Values.{values_of_all}
use Rattle.jam_expand.proofs.PiecesExpandOneByOne.{after_lists}
use Rattle.jam_expand.proofs.word.product_of_pieces.Given as goal

abbrev pub invariant-loop-piece : goal.invariant-loop-piece
invariant-loop-piece g l =
    after_lists l.lists.items (lists_of (λ inside. and_then (values_of_all (g.L.Look.answer l.look)) (elements_at 15 (g.L.Look.answer l.look) inside)) (drop l.piece-index (map owned l.pieces)))
    ≡ lists_of (λ inside. and_then (values_of_all (g.L.Look.answer l.look)) (elements_at 15 (g.L.Look.answer l.look) inside)) (map owned l.pieces)
