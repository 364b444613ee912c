use Rattle.std.proofs.Common.{◌≡◌, take}
use Rattle.jam_effects.proofs.actions.texts_of.Given as goal

abbrev pub invariant-loop-path : goal.invariant-loop-path
invariant-loop-path l = l.made.items ≡ take l.path-index l.paths
