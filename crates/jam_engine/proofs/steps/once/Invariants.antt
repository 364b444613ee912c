use Rattle.std.proofs.Common.{◌≡◌, [], fold, take}
use Rattle.jam_natives.specs.SeenTexts.{HasSeen}
use Rattle.jam_natives.specs.Texts.{add_new}
use Rattle.jam_engine.proofs.steps.once.Given as goal

abbrev pub invariant-loop-path : goal.invariant-loop-path
invariant-loop-path l = record { so_far : l.made ≡ fold add_new [] (take l.path-index l.paths); seen : HasSeen l.seen l.made }
