use Rattle.b2_board.proofs.BoardHoldsAsFactsGrow.{board_stays_as_forgotten as law}
use Rattle.b2_board.proofs.laws.board_stays_as_forgotten.Goals as goal

pub returns : goal.returns
returns c = law
