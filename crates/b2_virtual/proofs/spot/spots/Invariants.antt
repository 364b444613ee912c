use Rattle.std.proofs.Common.{◌≡◌, ℕ, List, ◌<◌, get_or, map, take}
use Rattle.b2_base.specs.Normal.{IsNormal}
use Rattle.b2_virtual.specs.Spots.{spot}
use Rattle.b2_virtual.proofs.spot.spots.Given as goal

-- the paths so far have their spots
abbrev pub invariant-loop-path : goal.invariant-loop-path
invariant-loop-path l = record {
  texts : l.made ≡ map spot (take l.path-index l.paths);
  normal : (k : ℕ) (d : List ℕ) → k < l.path-index → IsNormal (get_or l.paths k d);
}
