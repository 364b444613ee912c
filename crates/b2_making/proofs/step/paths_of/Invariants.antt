use Rattle.std.proofs.Common.{◌≡◌, take}
use Rattle.b2_making.specs.Steps.{paths_of}
use Rattle.b2_making.proofs.step.paths_of.Given as goal

abbrev pub invariant-loop-entry : goal.invariant-loop-entry
invariant-loop-entry l = l.paths ≡ paths_of (take l.entry-index l.entries)
