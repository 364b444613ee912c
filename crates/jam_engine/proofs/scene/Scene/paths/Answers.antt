use Rattle.std.proofs.Common.{ap, map, ◌∙◌}
use Rattle.std.proofs.lemmas.List.{take_all}
use Rattle.jam_engine.specs.Targets.{place}
use Rattle.jam_engine.proofs.scene.Scene.paths.Goals as goal

pub returns : goal.returns
returns c g stands h = c.loop-text.invariant g stands h ∙ ap (map (place g stands)) (take_all c.loop-text.text-index c.args.texts.now c.loop-text-test.false)
