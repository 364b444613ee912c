use Rattle.b2_refine.specs.Choosing.{IsFavourite}
use Rattle.b2_refine.proofs.choice.favourite.Given as goal

abbrev pub invariant-loop-place : goal.invariant-loop-place
invariant-loop-place l = IsFavourite l.full l.conditions l.place l.best
