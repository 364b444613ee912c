use Rattle.std.proofs.Common.{drop, ◌≡◌}
use Rattle.jam_engine.specs.Targets.{is_below_roots}
use Rattle.jam_engine.proofs.steps.is_placed.Given as goal

abbrev pub invariant-loop-root : goal.invariant-loop-root
invariant-loop-root l = is_below_roots (drop l.root-index l.roots) l.out ≡ is_below_roots l.roots l.out
