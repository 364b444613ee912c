use Rattle.std.proofs.Common.{take, ◌≡◌}
use Rattle.std.specs.List.{flat_map}
use Rattle.jam_engine.specs.Acts.{acts_at}
use Rattle.jam_engine.proofs.steps.targets_at.Given as goal

abbrev pub invariant-loop-place : goal.invariant-loop-place
invariant-loop-place l = l.targets ≡ flat_map (λ act. act.targets) (acts_at l.acts (take l.place-index l.set))
