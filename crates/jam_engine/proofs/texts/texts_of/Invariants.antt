use Rattle.std.proofs.Common.{take, ◌≡◌}
use Rattle.std.specs.Prelude.{Ok}
use Rattle.jam_engine.specs.Acts.{acts_at}
use Rattle.jam_engine.specs.Texting.{AreTextsOf}
use Rattle.jam_engine.proofs.texts.texts_of.Given as goal

abbrev pub invariant-loop-place : goal.invariant-loop-place
invariant-loop-place l = record {
  same : l.graph ≡ l.initial.graph;
  texts : AreTextsOf l.graph l.scene (acts_at l.acts (take l.place-index l.set)) (Ok l.texts);
}
