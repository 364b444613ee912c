use Rattle.std.proofs.Common.{◌≡◌, ℕ, None, length}
use Rattle.b2_board.specs.Boards.{work_at}
use Rattle.b2_board.proofs.board.no_works.Given as goal

-- as many places as numbers so far, and no work at any
abbrev pub invariant-loop-number : goal.invariant-loop-number
invariant-loop-number l = record {
  size : length l.works.items ≡ l._number;
  none : (k : ℕ) → work_at l.works.items k ≡ None;
}
