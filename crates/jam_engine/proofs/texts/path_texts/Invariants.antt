use Rattle.std.proofs.Common.{take, ◌≡◌}
use Rattle.jam_engine.proofs.texts.path_texts.Given as goal

abbrev pub invariant-loop-path : goal.invariant-loop-path
invariant-loop-path l = l.texts ≡ take l.path-index l.path-items
