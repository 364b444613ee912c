use Rattle.std.proofs.Common.{◌≡◌, ◌++◌, drop, map}
use Rattle.jam_expand.specs.OwnPieces.{owned}
use Rattle.jam_expand.specs.Words.{pieces_of}
use Rattle.jam_expand.proofs.word.own_pieces.Given as goal

abbrev pub invariant-loop-piece : goal.invariant-loop-piece
invariant-loop-piece l = map owned l.made.items ++ drop l.piece-index (pieces_of l.word) ≡ pieces_of l.word
