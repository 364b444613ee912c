use Rattle.std.proofs.Common.{◌+◌, length, ap, ◌∙◌}
use Rattle.b2_board.proofs.BoardHoldsAsStatesChange.{board_new}
use Rattle.b2_board.proofs.board.Board.new.Goals as goal

pub returns-clause-board : goal.returns-clause-board
returns-clause-board c = λ f.
    let plan = c.args.plan.now in
    let works = c.in_ok-works.ensures in
    board_new plan.steps plan.wanted c.args.jobs f c.in_ok-sched.sched c.in_ok-works.works.items c.in_ok-sched.ensures c.sound.ensures (works.0 ∙ ap (λ xs. length xs + 1) c.as_slice.ensures) works.1
