use Rattle.jam_expand.proofs.PiecesAreTheOnlyCut.{pieces_written}
use Rattle.jam_expand.proofs.laws.pieces_spell_word.Goals as goal

pub returns : goal.returns
returns c = pieces_written
