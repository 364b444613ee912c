use Rattle.std.proofs.Common.{◌≡◌, ℕ, length, get_or, None}
use Rattle.b2_explain.proofs.survey.none_judged.Given as goal

-- as many as numbers so far, and nothing was found
abbrev pub invariant-loop-number : goal.invariant-loop-number
invariant-loop-number l = record {
  size : length l.judged.items ≡ l._number;
  none : (i : ℕ) → get_or l.judged.items i None ≡ None;
}
