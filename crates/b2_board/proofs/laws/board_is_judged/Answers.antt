use Rattle.b2_board.proofs.NeededAreSteps.{board_is_judged as law}
use Rattle.b2_board.proofs.laws.board_is_judged.Goals as goal

pub returns : goal.returns
returns c = law
