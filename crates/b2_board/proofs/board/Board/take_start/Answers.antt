use Rattle.b2_board.proofs.CallsKeepBoard.{start_after, start_board}
use Rattle.b2_board.proofs.board.Board.take_start.Goals as goal

pub returns-clause-after : goal.returns-clause-after
returns-clause-after c = start_after c.take_start.result c.args.self.now c.take_start.new.self c.take_start.ensures.after

pub returns-clause-board : goal.returns-clause-board
returns-clause-board c plan f is = start_board c.take_start.result c.args.self.now c.take_start.new.self c.sound.ensures c.take_start.ensures.lowest c.take_start.ensures.after plan f is
