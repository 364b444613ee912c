use Rattle.std.proofs.Common.{◌≢◌, ℕ, ◌<◌, ◌≤◌, ◌-◌, length, get_or}
use Rattle.jam_lexer.proofs.gap.comment_end.Given as goal

abbrev pub invariant-loop-end : goal.invariant-loop-end
invariant-loop-end l = record {
  past : l.hash < l.end;
  within : l.end ≤ length l.bytes;
  one_line : (k : ℕ) → l.hash < k → k < l.end → get_or l.bytes k 0 ≢ 10;
}

abbrev pub decreases-loop-end : goal.decreases-loop-end
decreases-loop-end l = length l.bytes - l.end
