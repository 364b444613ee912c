use Rattle.b2_board.proofs.BoardHoldsAsStatesChange.{board_ends}
use Rattle.b2_board.proofs.board.Board.finish.Goals as goal

pub returns-clause-board : goal.returns-clause-board
returns-clause-board c plan f is =
    let b = c.args.self.now in
    board_ends plan.steps plan.wanted c.args.number f b.sched b.works.items c.sound.ensures c.requires c.args.ok c.finish.new.self c.finish.ensures.ok c.finish.ensures.failed is
