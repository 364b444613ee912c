use Rattle.std.proofs.Common.{drop, ◌≡◌}
use Rattle.std.specs.List.{find}
use Rattle.std.specs.Prelude.{not}
use Rattle.jam_engine.specs.Acts.{acts_at, is_quiet_in}
use Rattle.jam_engine.proofs.steps.name_at.Given as goal

abbrev pub invariant-loop-place : goal.invariant-loop-place
invariant-loop-place l = find (λ a. not (is_quiet_in l.world.now a)) (acts_at l.acts (drop l.place-index l.set)) ≡ find (λ a. not (is_quiet_in l.world.now a)) (acts_at l.acts l.set)
