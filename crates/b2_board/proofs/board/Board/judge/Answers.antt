use Rattle.b2_board.proofs.BoardHoldsAsStatesChange.{board_judged}
use Rattle.b2_board.proofs.board.Board.judge.Goals as goal

pub returns-clause-board : goal.returns-clause-board
returns-clause-board c plan f over is =
    let b = c.args.self.now in
    board_judged plan.steps plan.wanted c.args.number f b.sched b.works.items c.sound.ensures is c.requires.needed c.requires.unjudged over c.args.stale c.judge.new.self c.judge.ensures.stale c.judge.ensures.fresh
