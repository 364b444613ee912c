use Rattle.std.proofs.Common.{◌≡◌, ℕ, [], length, get_or}
use Rattle.b2_testing.proofs.pass_list.no_dependents.Given as goal

-- as many lists as numbers so far, and each is empty
abbrev pub invariant-loop-number : goal.invariant-loop-number
invariant-loop-number l = record {
  size : length l.lists.items ≡ l._number;
  none : (k : ℕ) → get_or l.lists.items k [] ≡ [];
}
