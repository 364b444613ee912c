use Rattle.std.proofs.Common.{◌≡◌, length, ◌-◌, map, drop, None}
use Rattle.std.specs.List.{All}
use Rattle.jam_expand.specs.Shown.{shown}
use Rattle.jam_expand.specs.Words.{inside_len}
use Rattle.jam_expand.proofs.PiecesGrowAlongTheWord.{HasCut}
use Rattle.jam_expand.proofs.piece.pieces_of.Given as goal

abbrev pub invariant-bytes : goal.invariant-bytes
invariant-bytes l = record {
  cut : HasCut l.word (map shown l.pieces.items) l.start l.at;
  unclosed : All (λ place. inside_len (drop place l.word) ≡ None) l.unclosed.items;
}

abbrev pub decreases-bytes : goal.decreases-bytes
decreases-bytes l = length l.word - l.at
