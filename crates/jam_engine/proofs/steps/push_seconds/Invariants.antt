use Rattle.std.proofs.Common.{take, ◌++◌, ◌≡◌}
use Rattle.jam_engine.specs.Spreading.{seconds_at}
use Rattle.jam_engine.proofs.steps.push_seconds.Given as goal

abbrev pub invariant-loop-place : goal.invariant-loop-place
invariant-loop-place l = l.made ≡ l.initial.made ++ seconds_at l.pairs (take l.place-index l.places)
