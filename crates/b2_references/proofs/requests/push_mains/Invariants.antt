use Rattle.std.proofs.Common.{◌≡◌, ◌++◌, map}
use Rattle.std.specs.Vec.Iter.{into_iter_items}
use Rattle.b2_references.specs.declared.asked.AskedPiece.TheVariants.{Main}
use Rattle.b2_references.proofs.requests.push_mains.Given as goal

-- the pieces so far, with those that are left
abbrev pub invariant-loop-set : goal.invariant-loop-set
invariant-loop-set l = l.made ++ map (Main l.name) (into_iter_items l.set-iterator) ≡ l.initial.made ++ map (Main l.name) l.fn.sets
