use Rattle.std.proofs.Common.{◌≡◌, take}
use Rattle.b2_making.specs.Steps.{include_dirs}
use Rattle.b2_making.proofs.step.include_dirs.Given as goal

abbrev pub invariant-loop-pair : goal.invariant-loop-pair
invariant-loop-pair l = l.dirs ≡ include_dirs (take l.pair-index l.pair-items)
