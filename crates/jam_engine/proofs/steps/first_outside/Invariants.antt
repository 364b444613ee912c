use Rattle.std.proofs.Common.{drop, take, ◌≡◌}
use Rattle.std.specs.List.{AllByRecursion, find}
use Rattle.std.specs.Prelude.{not}
use Rattle.b2_plan.specs.Sources.{IsInRoots}
use Rattle.jam_engine.specs.Targets.{is_below_roots}
use Rattle.jam_engine.proofs.steps.first_outside.Given as goal

abbrev pub invariant-loop-out : goal.invariant-loop-out
invariant-loop-out l = record {
  exact : find (λ out. not (is_below_roots l.roots out)) (drop l.out-index l.outs) ≡ find (λ out. not (is_below_roots l.roots out)) l.outs;
  inside : AllByRecursion (IsInRoots l.roots) (take l.out-index l.outs);
}
