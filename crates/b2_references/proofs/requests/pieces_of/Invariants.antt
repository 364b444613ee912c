use Rattle.std.proofs.Common.{◌≡◌, take}
use Rattle.std.specs.List.{flat_map}
use Rattle.b2_references.specs.Requests.{asked_of}
use Rattle.b2_references.proofs.requests.pieces_of.Given as goal

-- what is asked for by the sets so far
abbrev pub invariant-loop-set : goal.invariant-loop-set
invariant-loop-set l = l.made ≡ flat_map (asked_of l.index l.words) (take l.set-index l.sets)
