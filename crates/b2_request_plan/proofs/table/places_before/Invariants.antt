use Rattle.std.proofs.Common.{◌≡◌, take}
use Rattle.std.specs.List.{filter}
use Rattle.b2_generate.specs.Places.{is_before}
use Rattle.b2_request_plan.proofs.table.places_before.Given as goal

-- those of the places so far
abbrev pub invariant-loop-place : goal.invariant-loop-place
invariant-loop-place l = l.made.items ≡ filter (is_before l.bound) (take l.place-index l.places)
