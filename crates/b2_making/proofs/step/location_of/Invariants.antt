use Rattle.std.proofs.Common.{◌≡◌, take}
use Rattle.std.specs.Option.{option_copied}
use Rattle.b2_making.specs.Steps.{location_of}
use Rattle.b2_making.proofs.step.location_of.Given as goal

abbrev pub invariant-loop-pair : goal.invariant-loop-pair
invariant-loop-pair l = option_copied l.found ≡ location_of (take l.pair-index l.pair-items)
