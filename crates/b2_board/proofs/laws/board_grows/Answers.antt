use Rattle.b2_board.proofs.BoardHoldsAsFactsGrow.{board_grows as law}
use Rattle.b2_board.proofs.laws.board_grows.Goals as goal

pub returns : goal.returns
returns c = law
