use Rattle.std.proofs.Common.{drop, ◌≡◌}
use Rattle.std.specs.List.{find}
use Rattle.std.specs.Prelude.{not}
use Rattle.jam_engine.specs.Tables.{is_in}
use Rattle.jam_engine.proofs.plan.unknown.Given as goal

abbrev pub invariant-loop-target : goal.invariant-loop-target
invariant-loop-target l = find (λ target. not (is_in l.index.targets target)) (drop l.target-index l.targets) ≡ find (λ target. not (is_in l.index.targets target)) l.targets
