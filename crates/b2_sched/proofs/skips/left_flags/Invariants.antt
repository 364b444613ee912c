use Rattle.std.proofs.Common.{◌≡◌, ℕ, ◌<◌, [], false, length, get_or}
use Rattle.b2_sched.specs.declared.state.State.TheVariants.{Settled}
use Rattle.b2_sched.specs.Searches.{is_left}
use Rattle.b2_sched.proofs.skips.left_flags.Given as goal

-- the flags so far
abbrev pub invariant-loop-number : goal.invariant-loop-number
invariant-loop-number l = record {
  size : length l.flags.items ≡ l.number;
  each : (i : ℕ) → i < l.number → get_or l.flags.items i false ≡ is_left (get_or l.states i Settled) (get_or l.dependents i []);
}
