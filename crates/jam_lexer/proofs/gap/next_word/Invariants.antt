use Rattle.std.proofs.Common.{◌≤◌, ◌-◌, length}
use Rattle.jam_lexer.specs.Gap.{IsGap, IsInComment}
use Rattle.jam_lexer.proofs.gap.next_word.Given as goal

abbrev pub invariant-loop-at : goal.invariant-loop-at
invariant-loop-at l = record {
  order : l.from ≤ l.at;
  within : l.at ≤ length l.bytes;
  gap : IsGap l.bytes l.from l.at;
  no_comment : IsInComment l.bytes l.from l.at → ⊥;
}

abbrev pub decreases-loop-at : goal.decreases-loop-at
decreases-loop-at l = length l.bytes - l.at
