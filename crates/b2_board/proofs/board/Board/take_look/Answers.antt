use Rattle.b2_board.proofs.CallsKeepBoard.{taken_none, taken_after, taken_board, taken_left}
use Rattle.b2_board.proofs.board.Board.take_look.Goals as goal

pub returns-clause-none : goal.returns-clause-none
returns-clause-none c = taken_none c.take_look.result c.args.self.now.sched c.take_look.new.self c.take_look.ensures.lowest c.take_look.ensures.after

pub returns-clause-after : goal.returns-clause-after
returns-clause-after c = taken_after c.take_look.result c.args.self.now c.take_look.new.self c.take_look.ensures.after

pub returns-clause-board : goal.returns-clause-board
returns-clause-board c = taken_board c.take_look.result c.args.self.now c.take_look.new.self c.sound.ensures c.take_look.ensures.after

pub returns-clause-left : goal.returns-clause-left
returns-clause-left c = taken_left c.take_look.result c.args.self.now c.take_look.new.self c.take_look.ensures.lowest c.take_look.ensures.after
