use Rattle.std.proofs.Common.{take}
use Rattle.jam_engine.specs.Linking.{AreSetsOf}
use Rattle.jam_engine.proofs.links.sets_of.Given as goal

abbrev pub invariant-loop-place : goal.invariant-loop-place
invariant-loop-place l = AreSetsOf (take l.place l.label-items) l.sets.items l.numbers.items
