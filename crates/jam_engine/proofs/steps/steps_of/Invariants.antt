use Rattle.std.proofs.Common.{map, take, ◌≡◌}
use Rattle.std.specs.Prelude.{Ok}
use Rattle.jam_engine.specs.Acts.{acts_at}
use Rattle.jam_engine.specs.Stepping.{ArePlaced, AreSteps}
use Rattle.jam_engine.proofs.steps.steps_of.Given as goal

abbrev pub invariant-loop-set : goal.invariant-loop-set
invariant-loop-set l = record {
  placed : ArePlaced l.scene.roots l.builder;
  same : l.graph ≡ l.initial.graph;
  steps : AreSteps l.graph l.scene (map (acts_at l.acts) (take l.set-index l.set-items)) (Ok l.builder);
}
