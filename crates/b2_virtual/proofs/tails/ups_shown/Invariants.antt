use Rattle.std.proofs.Common.{◌≡◌, map, take}
use Rattle.b2_base.specs.Segments.{texts}
use Rattle.b2_virtual.specs.Paths.{up_shown}
use Rattle.b2_virtual.proofs.tails.ups_shown.Given as goal

abbrev pub invariant-loop-cut : goal.invariant-loop-cut
invariant-loop-cut l = texts l.shown.items ≡ map up_shown (texts (take l.cut-index l.cuts))
