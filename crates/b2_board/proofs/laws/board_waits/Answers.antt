use Rattle.b2_board.proofs.BoardHoldsAsStatesChange.{board_rests}
use Rattle.b2_board.proofs.laws.board_waits.Goals as goal

pub returns : goal.returns
returns c = board_rests
