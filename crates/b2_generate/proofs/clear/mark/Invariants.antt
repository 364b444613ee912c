use Rattle.std.proofs.Common.{take}
use Rattle.b2_generate.specs.Clear.{AreMarked}
use Rattle.b2_generate.proofs.clear.mark.Given as goal

abbrev pub invariant-loop-place : goal.invariant-loop-place
invariant-loop-place l = AreMarked (take l.place-index l.places) l.initial.marks.items l.marks.items
