use Rattle.std.proofs.Common.{map, ◌≡◌}
use Rattle.jam_engine.specs.Spreading.{stacked}
use Rattle.jam_engine.proofs.spread.stack_of.Given as goal

abbrev pub invariant-loop-text : goal.invariant-loop-text
invariant-loop-text l = stacked l.stack.items ≡ map (λ text. text.now) l.yielded
