use Rattle.std.proofs.Common.{◌≡◌, reverse, take}
use Rattle.std.specs.List.{flat_map}
use Rattle.b2_request_plan.specs.Plans.{wanted_at}
use Rattle.b2_request_plan.proofs.plan.wanted_of.Given as goal

abbrev pub invariant-loop-place : goal.invariant-loop-place
invariant-loop-place l = l.wanted ≡ flat_map (wanted_at (reverse l.nodes)) (take l.place-index l.places)
