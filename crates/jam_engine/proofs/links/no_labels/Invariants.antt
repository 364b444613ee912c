use Rattle.std.proofs.Common.{All, None, length, ◌≡◌}
use Rattle.jam_engine.proofs.links.no_labels.Given as goal

abbrev pub invariant-loop-place : goal.invariant-loop-place
invariant-loop-place l = record { count : length l.labels.items ≡ l._place; none : All (λ label. label ≡ None) l.labels.items }
