use Rattle.b2_board.proofs.ScheduleSaysWhatRunSays.{board_tells_true as law}
use Rattle.b2_board.proofs.laws.board_tells_true.Goals as goal

pub returns : goal.returns
returns c = law
