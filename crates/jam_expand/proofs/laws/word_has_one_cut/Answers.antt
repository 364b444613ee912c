use Rattle.jam_expand.proofs.PiecesAreTheOnlyCut.{cut_exactly}
use Rattle.jam_expand.proofs.laws.word_has_one_cut.Goals as goal

pub returns : goal.returns
returns c = cut_exactly
