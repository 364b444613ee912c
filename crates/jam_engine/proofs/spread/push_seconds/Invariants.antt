use Rattle.std.proofs.Common.{map, ◌++◌, ◌≡◌}
use Rattle.jam_engine.specs.Spreading.{seconds_at, stacked}
use Rattle.jam_engine.proofs.spread.push_seconds.Given as goal

abbrev pub invariant-loop-place : goal.invariant-loop-place
invariant-loop-place l = stacked l.stack.items ≡ stacked l.initial.stack.items ++ seconds_at l.pairs (map (λ place. place.now) l.yielded)
