use Rattle.std.proofs.Common.{◌≡◌, length}
use Rattle.b2_looks.proofs.looks.none_ready.Given as goal

-- so many are there
abbrev pub invariant-loop-number : goal.invariant-loop-number
invariant-loop-number l = length l.ready.items ≡ l._number
