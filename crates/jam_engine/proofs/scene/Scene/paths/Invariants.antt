use Rattle.std.proofs.Common.{take}
use Rattle.jam_engine.specs.Scenes.{HavePaths}
use Rattle.jam_engine.proofs.scene.Scene.paths.Given as goal

abbrev pub invariant-loop-text : goal.invariant-loop-text
invariant-loop-text l = HavePaths l.self (take l.text-index l.texts) l.paths
