use Rattle.std.proofs.Common.{◌≡◌, ℕ, ◌<◌, ◌&&◌, false, not, length, get_or}
use Rattle.b2_sched.proofs.skips.stuck_flags.Given as goal

-- the flags so far
abbrev pub invariant-loop-number : goal.invariant-loop-number
invariant-loop-number l = record {
  size : length l.flags.items ≡ l.number;
  each : (i : ℕ) → i < l.number → get_or l.flags.items i false ≡ (get_or l.left i false && not (get_or l.found i false));
}
